-- Variables: what an editor shows of the children of containers.
use Rattle.std.specs.Prelude.{ℕ, ◌-◌, List, [], ◌++◌, map, slice_get, codes, decimal, Option, Some, None}
use Rattle.std.specs.Option.{option_map_or}
use Rattle.places.specs.declared.object.Contents.{Contents}
use Rattle.places.specs.declared.object.Contents.TheVariants as contents
use Rattle.places.specs.declared.object.Descriptor.{Descriptor}
use Rattle.places.specs.declared.object.Object.{Object}
use Rattle.places.specs.declared.place.Place.{Place}
use Rattle.places.specs.declared.place.Place.TheVariants as place
use Rattle.scenario.specs.PlaceTexts.{place_text, name_of}
use Rattle.scenario.specs.declared.setup.Setup.{Setup}
use Rattle.machine.specs.Whole.{view}
use Rattle.machine.specs.declared.whole.Machine.{Machine}
use Rattle.inverse_log.specs.Walks.{Walk, here}
use Rattle.run_log.specs.Lines.{value_shown}
use Rattle.dap_variables.specs.Children.{children, count_of}
use Rattle.dap_variables.specs.Requests.{field_name, field_text}
use Rattle.dap_variables.specs.declared.children.Child.{Child}
use Rattle.dap_variables.specs.declared.children.Child.TheVariants as child
use Rattle.dap_variables.specs.declared.container.Container.{Container}
use Rattle.dap_variables.specs.declared.container.Container.TheVariants.{Array, Entries, Completions, Backlog, Request, Object as ObjectOf, Descriptor as DescriptorOf, Durable}
use Rattle.dap_variables.specs.declared.requests.RequestField.{RequestField}
use Rattle.dap_variables.specs.declared.variable.Variable.{Variable}

-- A variable without a place and without children.
abbrev pub plain_variable : List ℕ → List ℕ → Variable
plain_variable name value =
    record { name = name; value = value; place = None; container = None; indexed = 0 }

-- ---- Places

abbrev pub container_in : Place → Option Container
container_in (place.Request r) = Some (Request r)
container_in _ = None

-- The variable of a place: its name, and its value as `show` prints it.
abbrev pub place_variable : Setup → Machine → Place → Variable
place_variable s m p = record {
  name = place_text s p;
  value = value_shown (view m p);
  place = Some p;
  container = container_in p;
  indexed = 0;
}

-- ---- Fields of requests

abbrev pub field_variable : Machine → ℕ → RequestField → Variable
field_variable m r f =
    plain_variable (field_name f) (option_map_or (field_text f) (slice_get m.table r) [])

-- ---- Containers within containers

abbrev pub kind_text : Contents → List ℕ
kind_text (contents.File bytes) = codes "file"
kind_text (contents.Pipe capacity) = codes "pipe"
kind_text (contents.EventFd counter) = codes "eventfd"

abbrev pub object_kind : Setup → ℕ → List ℕ
object_kind s o = option_map_or (λ (x : Object). kind_text x.contents) (slice_get s.objects o) []

-- The name of the object of a descriptor. Descriptors are numbered from 3.
abbrev pub descriptor_object : Setup → ℕ → List ℕ
descriptor_object s f =
    option_map_or (λ (d : Descriptor). name_of s d.object) (slice_get s.fds (f - 3)) []

abbrev pub nested_name : Setup → Container → List ℕ
nested_name s (ObjectOf o) = name_of s o
nested_name s (DescriptorOf f) = codes "fd " ++ decimal f
nested_name s Array = codes "array"
nested_name s Entries = codes "slots"
nested_name s Completions = codes "completions"
nested_name s Backlog = codes "backlog"
nested_name s (Durable o) = codes "durable bytes"
nested_name s _ = codes "bytes"

-- The kind of an object, the object of a descriptor, or how many children there are.
abbrev pub nested_value : Setup → Machine → Container → List ℕ
nested_value s m (ObjectOf o) = object_kind s o
nested_value s m (DescriptorOf f) = descriptor_object s f
nested_value s m c = decimal (count_of s m c)

abbrev pub nested_variable : Setup → Machine → Container → Variable
nested_variable s m c = record {
  name = nested_name s c;
  value = nested_value s m c;
  place = None;
  container = Some c;
  indexed = count_of s m c;
}

-- ---- Children

abbrev pub child_variable : Setup → Machine → Child → Variable
child_variable s m (child.Place p) = place_variable s m p
child_variable s m (child.Field r f) = field_variable m r f
child_variable s m (child.Nested c) = nested_variable s m c

-- The variables of a container other than changes and findings, at the position.
unfoldable pub variables_in : Walk → Container → List Variable
variables_in w c = map (child_variable w.setup (here w)) (children w.setup (here w) c)
