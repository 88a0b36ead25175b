-- Values that were appended to some bytes are read back from there.
use Rattle.std.proofs.Common.{◌≡◌, ℕ, ◌+◌, ◌<◌, take, get_or, refl, sym, ◌∙◌, subst, List, [], ◌∷◌, ◌++◌, length}
use Rattle.std.proofs.lemmas.List.{take_more}
use Rattle.compact_size.specs.Reading.{read_all, Reads, Puts}

module _ {X : Type 0} (read : List ℕ → X) (left : List ℕ → List ℕ) where
  reads-append : (bs : List ℕ) (xs : List X) (mid : List ℕ) (ys : List X) (rest : List ℕ) → Reads read left bs xs mid → Reads read left mid ys rest → Reads read left bs (xs ++ ys) rest
  reads-append bs [] mid ys rest f g = subst (λ cs. Reads read left cs ys rest) (sym f) g
  reads-append bs (x ∷ xs) mid ys rest f g = (f.0, reads-append (left bs) xs mid ys rest f.1 g)

  -- Appending nothing appends no values.
  pub puts_none : (old : List ℕ) → Puts read left old [] old
  puts_none old rest = record { put = rest; joined = refl; reads = refl }

  -- Appending `xs` and then `ys` appends `xs ++ ys`.
  pub puts_more : (a b c : List ℕ) (xs ys : List X) → Puts read left a xs b → Puts read left b ys c → Puts read left a (xs ++ ys) c
  puts_more a b c xs ys f g rest =
      let q = g rest in
      let p = f q.put in
      record { put = p.put; joined = q.joined ∙ p.joined; reads = reads-append p.put xs q.put ys rest p.reads q.reads }

  -- Appending item i after the first i items of a list appends the first i + 1.
  pub puts_next : (a b c : List ℕ) (xs : List X) (i : ℕ) (d : X) → i < length xs → Puts read left a (take i xs) b → Puts read left b (get_or xs i d ∷ []) c → Puts read left a (take (i + 1) xs) c
  puts_next a b c xs i d h f g = subst (λ ys. Puts read left a ys c) (sym (take_more xs i d h)) (puts_more a b c (take i xs) (get_or xs i d ∷ []) f g)

  -- If bytes begin with the values `xs`, then `read_all` of that many values returns `xs`.
  pub read_all_of : (bs : List ℕ) (xs : List X) (rest : List ℕ) → Reads read left bs xs rest → read_all read left (length xs) bs ≡ xs
  read_all_of bs [] rest f = refl
  read_all_of bs (x ∷ xs) rest f = rw (f.0, read_all_of (left bs) xs rest f.1) refl
