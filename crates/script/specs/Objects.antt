-- Objects and descriptors.
use Rattle.std.specs.Prelude.{ℕ, ◌-◌, ◌^◌, ◌&&◌, ◌||◌, nat_eq, nat_le, not, List, [], ◌∷◌, ◌++◌, length, take, codes, Bool, true, if◌then◌else◌, Option, Some, None, option_map, Result}
use Rattle.std.specs.List.{list_any, position, ends_with}
use Rattle.std.specs.Str.{bytes_eq}
use Rattle.serde_json.specs.Data.{Data}
use Rattle.serde_json.specs.Find.{get, as_str}
use Rattle.places.specs.declared.object.Contents.{Contents}
use Rattle.places.specs.declared.object.Contents.TheVariants.{File, Pipe, EventFd}
use Rattle.places.specs.declared.object.Descriptor.{Descriptor}
use Rattle.places.specs.declared.object.End.{End}
use Rattle.places.specs.declared.object.End.TheVariants.{Whole, Read, Write}
use Rattle.places.specs.declared.object.Object.{Object}
use Rattle.scenario.specs.Setups.{is_name, is_named, is_descriptor}
use Rattle.script.specs.declared.fault.Key.TheVariants as key
use Rattle.script.specs.declared.fault.ScriptFault.{ScriptFault}
use Rattle.script.specs.declared.object.ContentsForm.{ContentsForm}
use Rattle.script.specs.declared.object.ContentsForm.TheVariants as form
use Rattle.script.specs.Entries.{◌>>=◌}
use Rattle.script.specs.Faults as faults
use Rattle.script.specs.Faults.{at_key, at_item, form_limits_ranges, form_then_ranges}
use Rattle.script.specs.Lists.{has_keys, list_at, at_most, folded_at_most}
use Rattle.script.specs.Memory.{bytes_of}
use Rattle.script.specs.Numbers.{whole_of, between}

-- ---- objects

-- An object, without range checks.
pub record ObjectForm : Type 0 where
  pub name : List ℕ
  pub contents : ContentsForm

-- The keys of an object.
abbrev pub is_object_key : List ℕ → Bool
is_object_key k = bytes_eq k (codes "name") || bytes_eq k (codes "file") || bytes_eq k (codes "pipe") || bytes_eq k (codes "eventfd")

-- Exactly one of: a file's bytes, a pipe's capacity, an eventfd's counter.
abbrev pub one_of : Option Data → Option Data → Option Data → Option ContentsForm
one_of (Some file) None None = option_map form.File (bytes_of file)
one_of None (Some pipe) None = option_map form.Pipe (whole_of pipe)
one_of None None (Some eventfd) = option_map form.EventFd (whole_of eventfd)
one_of file pipe eventfd = None

-- An object's contents, without range checks.
abbrev pub contents_form : Data → Option ContentsForm
contents_form d = one_of (get (codes "file") d) (get (codes "pipe") d) (get (codes "eventfd") d)

-- An object's name, if it is a string.
abbrev pub name_of : Data → Option (List ℕ)
name_of d = get (codes "name") d >>= as_str

-- An object's name and contents, without range checks.
abbrev pub members_form : Data → Option ObjectForm
members_form d = do
  name ← name_of d
  contents ← contents_form d
  Some (record { name = name; contents = contents })

-- The object, if it has no other keys.
abbrev pub object_form : Data → Option ObjectForm
object_form d = if has_keys is_object_key d then members_form d else None

-- Whether a file has at most 65,536 bytes.
abbrev pub contents_keep_limits : ContentsForm → Bool
contents_keep_limits (form.File bytes) = nat_le (length bytes) 65536
contents_keep_limits _ = true

-- Whether an object's contents are within their limit.
abbrev pub is_small : ObjectForm → Bool
is_small o = contents_keep_limits o.contents

-- The contents, if a pipe's capacity (pipe(7)) and an eventfd's counter (eventfd(2)) are in range.
abbrev pub contents_in_range : ContentsForm → Option Contents
contents_in_range (form.File bytes) = Some (File bytes)
contents_in_range (form.Pipe capacity) = option_map Pipe (between 1 65536 capacity)
contents_in_range (form.EventFd counter) = option_map EventFd (between 0 (2 ^ 64 - 2) counter)

-- Whether a name is valid, and no earlier object has it.
abbrev pub is_new_name : List Object → List ℕ → Bool
is_new_name before name = is_name name && not (list_any (is_named name) before)

-- The object, if its name is new and its numbers are in their ranges.
abbrev pub object_in_range : List Object → ObjectForm → Option Object
object_in_range before o = if is_new_name before o.name then option_map (λ contents. record { name = o.name; contents = contents }) (contents_in_range o.contents) else None

-- The earlier objects, followed by object i.
abbrev pub object_at : List Object → ℕ → Data → Result (List Object) ScriptFault
object_at before i d = form_limits_ranges (at_item key.Objects i) (object_form d) is_small (λ o. option_map (λ x. before ++ x ∷ []) (object_in_range before o))

-- The objects at the optional key `objects`, at most 32.
abbrev pub objects_of : Option Data → Result (List Object) ScriptFault
objects_of d = faults.◌>>=◌ (list_at key.Objects d) (folded_at_most 32 (at_key key.Objects) object_at [])

-- ---- descriptors

-- A descriptor of an object's end, if the object has this end.
abbrev pub descriptor_of : List Object → End → ℕ → Option Descriptor
descriptor_of objects end o = if is_descriptor objects (record { object = o; end = end }) then Some (record { object = o; end = end }) else None

-- A descriptor of an end of the object with this name.
abbrev pub end_named : List Object → End → List ℕ → Option Descriptor
end_named objects end name = position (is_named name) objects >>= descriptor_of objects end

-- The text before a mark, if the text ends with the mark.
abbrev pub before_mark : List ℕ → List ℕ → Option (List ℕ)
before_mark mark text = if ends_with nat_eq text mark then Some (take (length text - length mark) text) else None

-- The descriptor: the reading end for `NAME:r`, the writing end for `NAME:w`, or the whole object.
abbrev pub end_meant : List Object → List ℕ → Option (List ℕ) → Option (List ℕ) → Option Descriptor
end_meant objects text (Some reader) writer = end_named objects Read reader
end_meant objects text None (Some writer) = end_named objects Write writer
end_meant objects text None None = end_named objects Whole text

-- The descriptor that a text names: a file or eventfd by its name, a pipe's end by `NAME:r` or
-- `NAME:w`.
abbrev pub descriptor_named : List Object → List ℕ → Option Descriptor
descriptor_named objects text = end_meant objects text (before_mark (codes ":r") text) (before_mark (codes ":w") text)

-- Descriptor i of the list.
abbrev pub descriptor_at : List Object → ℕ → Data → Result Descriptor ScriptFault
descriptor_at objects i d = form_then_ranges (at_item key.Fds i) (as_str d) (descriptor_named objects)

-- The descriptors at the optional key `fds`, at most 64.
abbrev pub fds_of : List Object → Option Data → Result (List Descriptor) ScriptFault
fds_of objects d = faults.◌>>=◌ (list_at key.Fds d) (at_most 64 (at_key key.Fds) (descriptor_at objects))
