-- Lines and columns, byte by byte.
use Rattle.std.proofs.Common.{◌≡◌, ℕ, ◌+◌, ◌*◌, ◌<◌, ◌≤◌, ◌==◌, nat_lt, Bool, true, false, if◌then◌else◌, List, [], ◌∷◌, length, take, get_or, sym, ap, ◌∙◌, arith}
use Rattle.std.proofs.lemmas.List.{take_more}
use Rattle.std.proofs.lemmas.List.Sums.{fold-append}
use Rattle.std.specs.Prelude.{fold}
use Rattle.source_map.specs.declared.cursor.Position.{Position}
use Rattle.source_map.specs.Positions.{units, pass, position_at, IsCursor}

position_next : (text : List ℕ) (at : ℕ) → at < length text → position_at text (at + 1) ≡ pass (position_at text at) (get_or text at 0)
unfolding position_at
position_next text at h =
    ap (fold pass (record { line = 1; column = 1 })) (take_more text at 0 h)
    ∙ fold-append pass (record { line = 1; column = 1 }) (take at text) (get_or text at 0 ∷ [])

units_bound : (byte : ℕ) (t u v : Bool) → (if t then 1 else if u then 0 else if v then 1 else 2) ≤ 2
units_bound byte true u v = omega arith
units_bound byte false true v = omega arith
units_bound byte false false true = omega arith
units_bound byte false false false = omega arith

bounds : (t : Bool) (p q : Position) (n m k : ℕ) → k ≤ 2 → p.line ≤ n → p.column ≤ m → q ≡ (if t then record { line = p.line + 1; column = 1 } else record { line = p.line; column = p.column + k }) → (q.line ≤ n + 1) × (q.column ≤ m + 2)
bounds true p q n m k two h l e = (omega (arith, ap (λ (r : Position). r.line) e), omega (arith, ap (λ (r : Position). r.column) e))
bounds false p q n m k two h l e = (omega (arith, ap (λ (r : Position). r.line) e), omega (arith, ap (λ (r : Position). r.column) e))

-- The cursor after the next byte.
pub cursor_next : (text : List ℕ) (at : ℕ) (p q : Position) → at < length text → IsCursor text (record { offset = at; position = p }) → q ≡ pass p (get_or text at 0) → IsCursor text (record { offset = at + 1; position = q })
cursor_next text at p q h c e =
    let byte = get_or text at 0 in
    let two : units byte ≤ 2 = units_bound byte (nat_lt byte 128) (nat_lt byte 192) (nat_lt byte 240) in
    let b = bounds (byte == 10) p q (at + 1) (2 * at + 1) (units byte) two c.line c.column e in
    record {
      within = omega arith;
      position = e ∙ ap (λ r. pass r (get_or text at 0)) c.position ∙ sym (position_next text at h);
      line = b.0;
      column = omega (arith, b.1);
    }
