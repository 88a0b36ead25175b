use Rattle.std.proofs.Common.{◌≡◌}
use Rattle.std.specs.Prelude.{Some}
use Rattle.places.specs.declared.value.Value.TheVariants.{Awake as AwakeValue}
use Rattle.sqpoll.proofs.Polled.{seen_poller}
use Rattle.sqpoll.proofs.poller.PollerPart.put.Goals as goal

pub returns-in-PollerStage-Some-Awake : goal.returns-in-PollerStage-Some-Awake
returns-in-PollerStage-Some-Awake c =
    let e : c.args.value ≡ Some (AwakeValue c.in-PollerStage-Some-Awake.awake) = cc in
    rw (c.in-PollerStage-Some-Awake.is-0, e) (λ q. seen_poller _ _ _ c.from_awake.ensures q)
