-- The part of a container's variables that is on a page.
use Rattle.std.specs.Prelude.{ℕ, ◌+◌, ◌-◌, min}
use Rattle.dap_lists.specs.Pages.{left_out, most_on}
use Rattle.dap_lists.specs.declared.pages.Page.{Page}
use Rattle.dap_lists.specs.declared.pages.Window.{Window}

-- The part of n variables that is on a page, and how many it leaves out.
abbrev pub window : Page → ℕ → Window
window p n = record {
  from = min p.start n;
  to = min p.start n + min (most_on p) (n - min p.start n);
  rest = left_out p (n - min p.start n);
}
