-- Whether a file is durable, read from the values of its places.
use Rattle.finding_rules.proofs.Common.{◌≡◌, ℕ, zero, suc, ◌<◌, ◌≤◌, Bool, true, false, List, [], ◌∷◌, length, take, refl, MatchBool, Option, Some, None, option_map, slice_get, not, nat_lt, nat_le, ◌==◌, ◌&&◌, ◌||◌, option_map_or, option_and_then, bytes_eq, FileByte, DurableByte, FileLength, DurableLength, Byte, Body, FileState, FileSized, content, durable_content, body_seen, file_in, Machine, view, WellFormed, byte_in, differ, sym, ap, ◌∙◌, arith, eqb-true, eq-eqb, length-take-le, same_Some, none-some, bytes_eq-Decides, slice_get-take_below, clash, is_unsynced, has_unsynced, is_volatile, is_volatile_at}
use Rattle.model_files.specs.declared.body.Body.TheVariants.{File}
use Rattle.finding_kinds.specs.Values.{number_in}

-- Object o is a file with length n and durable length d.
abbrev pub IsFile : Machine → ℕ → ℕ → ℕ → Type 0
IsFile m o n d = (f : FileState) × (slice_get m.world.objects o ≡ Some (File f)) × (f.len ≡ n) × (f.durable_len ≡ d)

pub is_file : (m : Machine) (o n d : ℕ) → Some n ≡ number_in (view m (FileLength o)) → Some d ≡ number_in (view m (DurableLength o)) → IsFile m o n d
is_file m o n d = by (slice_get m.world.objects o) refl
  where
    by : (x : Option Body) → slice_get m.world.objects o ≡ x → Some n ≡ number_in (option_and_then (λ (b : Body). body_seen b (FileLength o)) x) → Some d ≡ number_in (option_and_then (λ (b : Body). body_seen b (DurableLength o)) x) → IsFile m o n d
    by (Some (File f)) e h k = (f, e, sym (same_Some n f.len h), sym (same_Some d f.durable_len k))
    by x e h k = absurd cc

-- An object without a length is no file.
pub no_length : (m : Machine) (o : ℕ) → None ≡ number_in (view m (FileLength o)) → has_unsynced m.world o ≡ false
no_length m o = by (slice_get m.world.objects o)
  where
    by : (x : Option Body) → None ≡ number_in (option_and_then (λ (b : Body). body_seen b (FileLength o)) x) → option_map_or is_unsynced (option_and_then file_in x) false ≡ false
    by (Some (File f)) h = absurd (none-some f.len h)
    by x h = refl

pub no_durable_length : (m : Machine) (o : ℕ) → None ≡ number_in (view m (DurableLength o)) → has_unsynced m.world o ≡ false
no_durable_length m o = by (slice_get m.world.objects o)
  where
    by : (x : Option Body) → None ≡ number_in (option_and_then (λ (b : Body). body_seen b (DurableLength o)) x) → option_map_or is_unsynced (option_and_then file_in x) false ≡ false
    by (Some (File f)) h = absurd (none-some f.durable_len h)
    by x h = refl

-- ---- a file

file_unsynced : (m : Machine) (o : ℕ) (f : FileState) → slice_get m.world.objects o ≡ Some (File f) → has_unsynced m.world o ≡ not (bytes_eq (content f) (durable_content f))
file_unsynced m o f e = ap (λ (x : Option Body). option_map_or is_unsynced (option_and_then file_in x) false) e

byte_back : (o : Option ℕ) → byte_in (option_map Byte o) ≡ o
byte_back None = refl
byte_back (Some b) = refl

differ_seen : (m : Machine) (o i : ℕ) (f : FileState) → slice_get m.world.objects o ≡ Some (File f) → differ (byte_in (view m (FileByte o i))) (byte_in (view m (DurableByte o i))) ≡ differ (slice_get f.bytes i) (slice_get f.durable i)
differ_seen m o i f e =
    ap (λ (x : Option Body). differ (byte_in (option_and_then (λ (b : Body). body_seen b (FileByte o i)) x)) (byte_in (option_and_then (λ (b : Body). body_seen b (DurableByte o i)) x))) e
    ∙ ap (λ (x : Option ℕ). differ x (byte_in (option_map Byte (slice_get f.durable i)))) (byte_back (slice_get f.bytes i))
    ∙ ap (differ (slice_get f.bytes i)) (byte_back (slice_get f.durable i))

same_byte : (o : Option ℕ) → differ o o ≡ false
same_byte None = refl
same_byte (Some b) = ap not (eq-eqb b b refl)

one_byte : (a b : ℕ) → not (a == b) ≡ false → a ≡ b
one_byte a b h = by (a == b) refl h
  where
    by : (t : Bool) → (a == b) ≡ t → not t ≡ false → a ≡ b
    by true e k = eqb-true a b e
    by false e k = absurd (clash (sym k))

same_bytes : (n : ℕ) (xs ys : List ℕ) → n ≤ length xs → n ≤ length ys → ((i : ℕ) → i < n → differ (slice_get xs i) (slice_get ys i) ≡ false) → take n xs ≡ take n ys
same_bytes zero xs ys l k h = refl
same_bytes (suc n) [] ys l k h = absurd (omega (arith, l))
same_bytes (suc n) (x ∷ xs) [] l k h = absurd (omega (arith, k))
same_bytes (suc n) (x ∷ xs) (y ∷ ys) l k h =
    ap (λ z. z ∷ take n xs) (one_byte x y (h 0 (omega arith))) ∙ ap (λ zs. y ∷ zs) (same_bytes n xs ys (omega (arith, l)) (omega (arith, k)) (λ i b. h (suc i) (omega (arith, b))))

-- Unequal lists.
other_bytes : (xs ys : List ℕ) → (xs ≡ ys → ⊥) → not (bytes_eq xs ys) ≡ true
other_bytes xs ys no_path = by (bytes_eq xs ys) refl
  where
    by : (b : Bool) → bytes_eq xs ys ≡ b → not b ≡ true
    by true e = absurd (no_path ((bytes_eq-Decides xs ys).0 e))
    by false e = refl

sized : (m : Machine) (o : ℕ) (f : FileState) → WellFormed m → slice_get m.world.objects o ≡ Some (File f) → FileSized f
sized m o f h e = (h.mostly.world.objects o (File f) e).sized

pub few_bytes : (m : Machine) (o n d : ℕ) → WellFormed m → IsFile m o n d → n ≤ 65536
few_bytes m o n d h x = let s = sized m o x.0 h x.1 in let l = s.len in let e = x.2 in omega (arith, l, e)

pub lengths_differ : (m : Machine) (o n d : ℕ) → WellFormed m → IsFile m o n d → (n ≡ d → ⊥) → has_unsynced m.world o ≡ true
lengths_differ m o n d h x other =
    let s = sized m o x.0 h x.1 in
    let bytes : x.0.len ≤ length x.0.bytes = let a = s.bytes in let b = s.len in omega (arith, a, b) in
    let durable : x.0.durable_len ≤ length x.0.durable = let a = s.durable in let b = s.durable_len in omega (arith, a, b) in
    file_unsynced m o x.0 x.1 ∙ other_bytes _ _ (λ e. other (sym x.2 ∙ sym (length-take-le x.0.len x.0.bytes bytes) ∙ ap length e ∙ length-take-le x.0.durable_len x.0.durable durable ∙ x.3))

-- If both lengths are equal, comparing byte by byte decides.
pub bytes_decide : (m : Machine) (o n d : ℕ) (r : Bool) → WellFormed m → IsFile m o n d → n ≡ d
    → MatchBool r ((i : ℕ) × (i < n) × (differ (byte_in (view m (FileByte o i))) (byte_in (view m (DurableByte o i))) ≡ true)) ((i : ℕ) → i < n → differ (byte_in (view m (FileByte o i))) (byte_in (view m (DurableByte o i))) ≡ false)
    → has_unsynced m.world o ≡ r
bytes_decide m o n d true h x same found =
    let len : x.0.len ≡ n = x.2 in
    let durable_len : x.0.durable_len ≡ n = x.3 ∙ sym same in
    let differs : differ (slice_get x.0.bytes found.0) (slice_get x.0.durable found.0) ≡ true = sym (differ_seen m o found.0 x.0 x.1) ∙ found.2 in
    file_unsynced m o x.0 x.1 ∙ other_bytes _ _ (λ e.
    let one : slice_get x.0.bytes found.0 ≡ slice_get x.0.durable found.0 =
    sym (slice_get-take_below x.0.bytes n found.0 found.1) ∙ ap (λ (k : ℕ). slice_get (take k x.0.bytes) found.0) (sym len) ∙ ap (λ (xs : List ℕ). slice_get xs found.0) e
    ∙ ap (λ (k : ℕ). slice_get (take k x.0.durable) found.0) durable_len ∙ slice_get-take_below x.0.durable n found.0 found.1
    in
    clash (sym (sym differs ∙ ap (differ (slice_get x.0.bytes found.0)) (sym one) ∙ same_byte (slice_get x.0.bytes found.0))))
bytes_decide m o n d false h x same none =
    let s = sized m o x.0 h x.1 in
    let len : x.0.len ≡ n = x.2 in
    let durable_len : x.0.durable_len ≡ n = x.3 ∙ sym same in
    let most : n ≤ length x.0.bytes = let a = s.bytes in let b = s.len in omega (arith, a, b, len) in
    let durable : n ≤ length x.0.durable = let a = s.durable in let b = s.len in omega (arith, a, b, len) in
    let one : content x.0 ≡ durable_content x.0 =
    ap (λ (k : ℕ). take k x.0.bytes) len ∙ same_bytes n x.0.bytes x.0.durable most durable (λ i l. sym (differ_seen m o i x.0 x.1) ∙ none i l) ∙ ap (λ (k : ℕ). take k x.0.durable) (sym durable_len)
    in
    file_unsynced m o x.0 x.1 ∙ ap not ((bytes_eq-Decides (content x.0) (durable_content x.0)).1 one)

-- ---- bytes that are not durable

-- An object without a length has no byte.
pub volatile_none : (m : Machine) (o k : ℕ) → None ≡ number_in (view m (FileLength o)) → is_volatile_at m o k ≡ false
volatile_none m o k = by (slice_get m.world.objects o)
  where
    by : (x : Option Body) → None ≡ number_in (option_and_then (λ (b : Body). body_seen b (FileLength o)) x) → option_map_or (λ (f : FileState). is_volatile f k) (option_and_then file_in x) false ≡ false
    by (Some (File f)) h = absurd (none-some f.len h)
    by x h = refl

pub volatile_no_durable : (m : Machine) (o k : ℕ) → None ≡ number_in (view m (DurableLength o)) → is_volatile_at m o k ≡ false
volatile_no_durable m o k = by (slice_get m.world.objects o)
  where
    by : (x : Option Body) → None ≡ number_in (option_and_then (λ (b : Body). body_seen b (DurableLength o)) x) → option_map_or (λ (f : FileState). is_volatile f k) (option_and_then file_in x) false ≡ false
    by (Some (File f)) h = absurd (none-some f.durable_len h)
    by x h = refl

-- A byte of a file, by the values of its places.
pub volatile_seen : (m : Machine) (o n d k : ℕ) → IsFile m o n d
    → is_volatile_at m o k ≡ (nat_lt k n && (nat_le d k || differ (byte_in (view m (FileByte o k))) (byte_in (view m (DurableByte o k)))))
volatile_seen m o n d k x =
    ap (λ (y : Option Body). option_map_or (λ (f : FileState). is_volatile f k) (option_and_then file_in y) false) x.1
    ∙ ap (λ (l : ℕ). nat_lt k l && (nat_le x.0.durable_len k || differ (slice_get x.0.bytes k) (slice_get x.0.durable k))) x.2
    ∙ ap (λ (l : ℕ). nat_lt k n && (nat_le l k || differ (slice_get x.0.bytes k) (slice_get x.0.durable k))) x.3
    ∙ ap (λ (b : Bool). nat_lt k n && (nat_le d k || b)) (sym (differ_seen m o k x.0 x.1))
