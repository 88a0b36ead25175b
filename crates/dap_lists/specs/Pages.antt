-- Pages of the variables of a container.
use Rattle.std.specs.Prelude.{◌≡◌, ℕ, ◌-◌, ◌==◌, nat_lt, List, [], ◌∷◌, ◌++◌, length, take, drop, codes, decimal, not, Bool, true, false, if◌then◌else◌}
use Rattle.dap_messages.specs.declared.request.Filter.{Filter}
use Rattle.dap_messages.specs.declared.request.Filter.TheVariants.{All, Named, Indexed}
use Rattle.dap_variables.specs.Children.{is_indexed}
use Rattle.dap_variables.specs.Variables.{plain_variable}
use Rattle.dap_variables.specs.declared.container.Container.{Container}
use Rattle.dap_lists.specs.declared.pages.Page.{Page}
use Rattle.dap_variables.specs.declared.variable.Variable.{Variable}

-- Whether a filter leaves out the variables of a container. Either all of them are numbered, or
-- none.
abbrev pub excludes : Filter → Container → Bool
excludes All c = false
excludes Named c = is_indexed c
excludes Indexed c = not (is_indexed c)

-- The last variable of a page that leaves some out: how many more there are.
abbrev pub more : ℕ → Variable
more n = plain_variable (codes "..") (decimal n ++ codes " more")

-- That variable, if there are more.
abbrev pub rest_of : ℕ → List Variable
rest_of n = if nat_lt 0 n then more n ∷ [] else []

-- How many variables a page has at most: as many as it requests, or else 256.
abbrev pub most_on : Page → ℕ
most_on p = if p.count == 0 then 256 else p.count

-- How many of n variables a page that requests no number leaves out.
abbrev pub left_out : Page → ℕ → ℕ
left_out p n = if p.count == 0 then n - 256 else 0

-- The variables on a page, and how many it leaves out.
abbrev pub page_of : Page → List Variable → List Variable
page_of p vs =
    take (most_on p) (drop p.start vs) ++ rest_of (left_out p (length (drop p.start vs)))

-- The variables of a container on a page, of those that `AreAll` says, unless the filter leaves
-- them out.
abbrev pub IsPage : Bool → (List Variable → Type 0) → Page → List Variable → Type 0
IsPage true AreAll p vs = vs ≡ []
IsPage false AreAll p vs = (all : List Variable) × AreAll all × (vs ≡ page_of p all)
