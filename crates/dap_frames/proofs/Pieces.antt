-- A stream is decoded piece by piece.
use Rattle.std.proofs.Common.{◌≡◌, ℕ, ◌<◌, suc, List, [], ◌∷◌, ◌++◌, length, get_or, drop, drop-cons, append_assoc, append-nil, Option, Some, None, refl, ap, sym, ◌∙◌, option_to_list}
use Rattle.dap_frames.specs.Decoding.{Partial, Failed, step, Decoded, decode, body_before, bodies_before, AddsPrefix, Feeds}
use Rattle.dap_frames.specs.declared.fault.FrameFault.{FrameFault}

-- A body before others.
bodies_before_body : (front : List (List ℕ)) (body : Option (List ℕ)) (c : Decoded) → bodies_before front (body_before body c) ≡ bodies_before (front ++ option_to_list body) c
bodies_before_body front None c = ap (λ bs. record { bodies = bs ++ c.bodies; rest = c.rest }) (sym (append-nil front))
bodies_before_body front (Some body) c = ap (λ bs. record { bodies = bs; rest = c.rest }) (sym (append_assoc front (body ∷ []) c.bodies))

body_before_bodies : (body : Option (List ℕ)) (c d : Decoded) → body_before body (bodies_before c.bodies d) ≡ bodies_before (body_before body c).bodies d
body_before_bodies None c d = refl
body_before_bodies (Some body) c d = refl

rest_of_body_before : (body : Option (List ℕ)) (c : Decoded) → (body_before body c).rest ≡ c.rest
rest_of_body_before None c = refl
rest_of_body_before (Some body) c = refl

-- How a stream is divided into pieces doesn't matter.
pub decode_pieces : (p : Partial) (a b : List ℕ) → decode p (a ++ b) ≡ bodies_before (decode p a).bodies (decode (decode p a).rest b)
decode_pieces p [] b = refl
decode_pieces p (x ∷ a) b = rw (decode_pieces (step p x).next a b, body_before_bodies (step p x).body (decode (step p x).next a) (decode (decode (step p x).next a).rest b), rest_of_body_before (step p x).body (decode (step p x).next a))

pub decode_failed : (fault : FrameFault) (bytes : List ℕ) → decode (Failed fault) bytes ≡ record { bodies = []; rest = Failed fault }
decode_failed fault [] = refl
decode_failed fault (b ∷ bs) = decode_failed fault bs

pub feeds_start : (p : Partial) (piece : List ℕ) (old : List (List ℕ)) → Feeds p piece old old p piece
feeds_start p piece old = record { front = []; added = sym (append-nil old); law = refl }

pub feeds_prefix : (p q : Partial) (piece left : List ℕ) (old new : List (List ℕ)) → Feeds p piece old new q left → AddsPrefix old new (decode p piece).bodies
feeds_prefix p q piece left old new f = record { front = f.front; rest = (decode q left).bodies; added = f.added; whole = ap (λ (c : Decoded). c.bodies) f.law }

-- After a fault, the rest of a piece is ignored.
pub feeds_failed : (p q : Partial) (piece left : List ℕ) (old new : List (List ℕ)) (fault : FrameFault) → Feeds p piece old new q left → q ≡ Failed fault → Feeds p piece old new q []
feeds_failed p q piece left old new fault f e = record {
  front = f.front;
  added = f.added;
  law = f.law ∙ rw (e, decode_failed fault left);
}

pub feeds_fault : (p q r : Partial) (piece : List ℕ) (old new : List (List ℕ)) (fault : FrameFault) (i : ℕ) → i < length piece → Feeds p piece old new q (drop i piece) → step q (get_or piece i 0) ≡ record { next = Failed fault; body = None } → r ≡ Failed fault → Feeds p piece old new r []
feeds_fault p q r piece old new fault i lt f s e = record {
  front = f.front;
  added = f.added;
  law = f.law ∙ rw (drop-cons piece i 0 lt, s, e, decode_failed fault (drop (suc i) piece));
}
