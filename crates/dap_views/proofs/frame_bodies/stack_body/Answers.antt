use Rattle.std.proofs.Common.{◌≡◌, ◌∙◌, List, ap}
use Rattle.std.specs.Prelude.{codes, option_map}
use Rattle.std.specs.Option.{option_to_list}
use Rattle.serde_json.specs.Data.{Data, Members, no_members, object}
use Rattle.serde_json.specs.View.{members_view, view}
use Rattle.serde_json.proofs.Views.{view-Object}
use Rattle.dap_views.specs.Bodies.{list_data, number_data, stack_body, with}
use Rattle.dap_views.proofs.frame_bodies.stack_body.Goals as goal

made : (none one two : Members) (frames : Data) (ds : List Data) → none ≡ no_members → frames ≡ list_data ds → one ≡ with (codes "stackFrames") frames none → two ≡ with (codes "totalFrames") (number_data 1) one → object two ≡ stack_body ds
unfolding stack_body
made none one two frames ds h f a b = cc

pub returns : goal.returns
returns c =
    let ds = option_to_list (option_map view c.args.frame) in
    view-Object c.put_number.new.members ∙ made (members_view c.new-members.result.entries) (members_view c.put_member.new.members.entries) (members_view c.put_number.new.members.entries) (view c.in_ok-frames.frames) ds (ap members_view c.new-members.ensures.empty) c.in_ok-frames.ensures c.in_ok-put_member.ensures c.in_ok-put_number.ensures
