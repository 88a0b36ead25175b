-- Pages of lists of variables.
use Rattle.std.proofs.Common.{◌≡◌, true, false, ℕ, zero, suc, ◌+◌, ◌-◌, ◌≤◌, min, List, [], ◌∷◌, ◌++◌, length, take, drop, map, refl, sym, ap, ◌∙◌, arith}
use Rattle.std.specs.List.{range_with_len}
use Rattle.std.proofs.lemmas.List.{drop-map, drop_min, length-drop, length-map, take-map, take_min}
use Rattle.std.proofs.lemmas.List.FromFn.{length-map-range_with_len, take-map-range_with_len}
use Rattle.scenario.specs.declared.setup.Setup.{Setup}
use Rattle.machine.specs.declared.whole.Machine.{Machine}
use Rattle.inverse_log.specs.Walks.{Walk, here}
use Rattle.dap_variables.specs.Children.{children, count_of, is_indexed, named_children, numbered_children, place_in}
use Rattle.dap_lists.specs.Pages.{left_out, most_on, page_of, rest_of}
use Rattle.dap_variables.specs.Variables.{child_variable, variables_in}
use Rattle.dap_lists.specs.Windows.{window}
use Rattle.dap_variables.specs.declared.children.Child.{Child}
use Rattle.dap_variables.specs.declared.children.Child.TheVariants as child
use Rattle.dap_variables.specs.declared.container.Container.{Container}
use Rattle.dap_lists.specs.declared.pages.Page.{Page}
use Rattle.dap_lists.specs.declared.pages.Window.{Window}
use Rattle.dap_variables.specs.declared.variable.Variable.{Variable}

-- The part of a list that starts at s and has at most k items.
pub part_min : {X : Type 0} (s k n : ℕ) (xs : List X) → length xs ≡ n → take ((min s n + min k (n - min s n)) - min s n) (drop (min s n) xs) ≡ take k (drop s xs)
part_min s k n xs e =
    let long : length (drop s xs) ≡ length xs - s = length-drop s xs in
    let count : (min s n + min k (n - min s n)) - min s n ≡ min k (length (drop s xs)) = omega arith in
    let from : drop (min s n) xs ≡ drop s xs = ap (λ j. drop (min s j) xs) (sym e) ∙ drop_min s xs in
    rw (count, from) (take_min k (drop s xs))

-- The window of a page has the variables on it.
pub window_page : (p : Page) (vs : List Variable) (n : ℕ) → length vs ≡ n → take ((window p n).to - (window p n).from) (drop (window p n).from vs) ++ rest_of (window p n).rest ≡ page_of p vs
window_page p vs n e =
    let long : length (drop p.start vs) ≡ length vs - p.start = length-drop p.start vs in
    let after : n - min p.start n ≡ length (drop p.start vs) = omega arith in
    let part : take ((window p n).to - (window p n).from) (drop (window p n).from vs) ≡ take (most_on p) (drop p.start vs) = part_min p.start (most_on p) n vs e in
    ap (λ l. l ++ rest_of (left_out p (n - min p.start n))) part
    ∙ ap (λ k. take (most_on p) (drop p.start vs) ++ rest_of (left_out p k)) after

-- The same of a list from which the variables are made.
pub made_page : {X : Type 0} (h : X → Variable) (p : Page) (xs : List X) (n : ℕ) → length xs ≡ n → map h (take ((window p n).to - (window p n).from) (drop (window p n).from xs)) ++ rest_of (window p n).rest ≡ page_of p (map h xs)
made_page h p xs n e =
    let from = (window p n).from in
    let count = (window p n).to - (window p n).from in
    let same : take count (drop from (map h xs)) ≡ map h (take count (drop from xs)) =
    ap (take count) (drop-map h from xs) ∙ take-map h count (drop from xs)
    in
    let long : length (map h xs) ≡ n = length-map xs h ∙ e in
    ap (λ l. l ++ rest_of (window p n).rest) (sym same) ∙ window_page p (map h xs) n long

map_map : {X Y Z : Type 0} (g : Y → Z) (f : X → Y) (xs : List X) → map (λ x. g (f x)) xs ≡ map g (map f xs)
map_map g f [] = refl
map_map g f (x ∷ xs) = ap (λ l. g (f x) ∷ l) (map_map g f xs)

-- The same of a list through which another is seen.
pub seen_page : {X Y : Type 0} (g : Y → Variable) (now : X → Y) (p : Page) (w : Window) (n : ℕ) (items : List X) (ys : List Y) → w ≡ window p n → n ≡ length items → map now items ≡ ys → map (λ x. g (now x)) (take (w.to - w.from) (drop w.from items)) ++ rest_of w.rest ≡ page_of p (map g ys)
seen_page g now p w n items ys is long seen =
    ap (λ (v : Window). map (λ x. g (now x)) (take (v.to - v.from) (drop v.from items)) ++ rest_of v.rest) is
    ∙ (made_page (λ x. g (now x)) p items n (sym long) ∙ ap (page_of p) (map_map g now items ∙ ap (map g) seen))

drop_counting : (a n k : ℕ) → k ≤ n → drop k (range_with_len a n) ≡ range_with_len (a + k) (n - k)
drop_counting a n zero h =
    let e : a + 0 ≡ a = omega arith in
    let f : n - 0 ≡ n = omega arith in
    ap (λ b. range_with_len b n) (sym e) ∙ ap (range_with_len (a + 0)) (sym f)
drop_counting a zero (suc k) h = absurd (omega arith)
drop_counting a (suc n) (suc k) h =
    let e : (a + 1) + k ≡ a + suc k = omega arith in
    let f : n - k ≡ suc n - suc k = omega arith in
    drop_counting (a + 1) n k (omega arith) ∙ (ap (λ b. range_with_len b (n - k)) e ∙ ap (range_with_len (a + suc k)) f)

-- The part of a counted list.
pub part_counted : {X : Type 0} (g : ℕ → X) (from count n : ℕ) → from + count ≤ n → take count (drop from (map g (range_with_len 0 n))) ≡ map g (range_with_len from count)
part_counted g from count n h =
    let rest : drop from (range_with_len 0 n) ≡ range_with_len (0 + from) (n - from) = drop_counting 0 n from (omega arith) in
    let e : 0 + from ≡ from = omega arith in
    ap (take count) (drop-map g from (range_with_len 0 n) ∙ ap (map g) (rest ∙ ap (λ b. range_with_len b (n - from)) e))
    ∙ take-map-range_with_len g from (n - from) count (omega arith)

-- A page of numbered children.
pub numbered_page : (h : Child → Variable) (c : Container) (p : Page) (n : ℕ) → map h (numbered_children c (window p n).from ((window p n).to - (window p n).from)) ++ rest_of (window p n).rest ≡ page_of p (map h (numbered_children c 0 n))
numbered_page h c p n =
    let g = λ (i : ℕ). child.Place (place_in c i) in
    let from = min p.start n in
    let count = (from + min (most_on p) (n - from)) - from in
    let fits : from + count ≤ n = omega arith in
    ap (λ l. map h l ++ rest_of (window p n).rest) (sym (part_counted g from count n fits))
    ∙ made_page h p (map g (range_with_len 0 n)) n (length-map-range_with_len g 0 n)

-- The same of the children of a container.
pub list_page : {X : Type 0} (h : X → Variable) (p : Page) (win : Window) (n : ℕ) (items : List X) → win ≡ window p n → n ≡ length items → map h (take (win.to - win.from) (drop win.from items)) ++ rest_of win.rest ≡ page_of p (map h items)
list_page h p win n items is long =
    ap (λ (v : Window). map h (take (v.to - v.from) (drop v.from items)) ++ rest_of v.rest) is ∙ made_page h p items n (sym long)

named_in : (w : Walk) (c : Container) → is_indexed c ≡ false → map (child_variable w.setup (here w)) (named_children w.setup (here w) c) ≡ variables_in w c
unfolding variables_in children
named_in w c h = rw h refl

numbered_in : (w : Walk) (c : Container) → is_indexed c ≡ true → map (child_variable w.setup (here w)) (numbered_children c 0 (count_of w.setup (here w) c)) ≡ variables_in w c
unfolding variables_in children
numbered_in w c h = rw h refl

pub named_page : (w : Walk) (c : Container) (s : Setup) (m : Machine) (p : Page) (win : Window) (n : ℕ) (items : List Child) → s ≡ w.setup → m ≡ here w → items ≡ named_children s m c → is_indexed c ≡ false → win ≡ window p n → n ≡ length items → map (child_variable s m) (take (win.to - win.from) (drop win.from items)) ++ rest_of win.rest ≡ page_of p (variables_in w c)
named_page w c s m p win n items setup state are named is long =
    let in_setup = ap (λ t. map (child_variable t m) (named_children t m c)) setup in
    let in_state = ap (λ k. map (child_variable w.setup k) (named_children w.setup k c)) state in
    list_page (child_variable s m) p win n items is long
    ∙ ap (page_of p) (ap (map (child_variable s m)) are ∙ (in_setup ∙ (in_state ∙ named_in w c named)))

pub counted_page : (w : Walk) (c : Container) (s : Setup) (m : Machine) (p : Page) (win : Window) (n : ℕ) → s ≡ w.setup → m ≡ here w → n ≡ count_of s m c → is_indexed c ≡ true → win ≡ window p n → map (child_variable s m) (numbered_children c win.from (win.to - win.from)) ++ rest_of win.rest ≡ page_of p (variables_in w c)
counted_page w c s m p win n setup state count indexed is =
    let in_setup = ap (λ t. map (child_variable t m) (numbered_children c 0 (count_of t m c))) setup in
    let in_state = ap (λ k. map (child_variable w.setup k) (numbered_children c 0 (count_of w.setup k c))) state in
    ap (λ (v : Window). map (child_variable s m) (numbered_children c v.from (v.to - v.from)) ++ rest_of v.rest) is
    ∙ (numbered_page (child_variable s m) c p n
    ∙ ap (page_of p) (ap (λ k. map (child_variable s m) (numbered_children c 0 k)) count ∙ (in_setup ∙ (in_state ∙ numbered_in w c indexed))))
