-- The layouts are one to one: one list of bytes per value, and one value per list of bytes.
use Rattle.std.proofs.Common.{◌≡◌, ℕ, ◌+◌, ◌<◌, ◌^◌, ℤ, List, [], ◌++◌, append-nil, length, drop, refl, sym, ap, ◌∙◌, arith, length-drop, FitsSigned, w32, to_z, of_z}
use Rattle.std.proofs.lemmas.Int.{to_z-of_z, ints}
use Rattle.std.proofs.lemmas.List.{drop-drop, take-append-drop, take_all}
use Rattle.byteorder.specs.Endian.{little_bytes, little_number}
use Rattle.byteorder.specs.Numbers.{little_number-reads_back}
use Rattle.entries.specs.declared.completion.Cqe.{Cqe}
use Rattle.entries.specs.declared.entry.Sqe.{Sqe}
use Rattle.entries.specs.Layout.{BytesAt, NumberAt, SignedAt, EntryFits, EntryLayout, CompletionFits, CompletionLayout, completion_bytes, entry_bytes, number_at, signed_at, entry_of_bytes}
use Rattle.entries.proofs.ByteLemmas.{same_number}

-- If `part` takes up the n bytes from offset o, then what follows o is
-- `part` and what follows o + n.
next : (o n m : ℕ) (bytes part : List ℕ) → o + n ≡ m → BytesAt o n part bytes → drop o bytes ≡ part ++ drop m bytes
next o n m bytes part e h =
    sym (take-append-drop n (drop o bytes)) ∙ ap (λ (xs : List ℕ). xs ++ drop n (drop o bytes)) h
    ∙ ap (λ (xs : List ℕ). part ++ xs) (drop-drop n o bytes ∙ ap (λ (k : ℕ). drop k bytes) e)

-- The same for a part that reaches the end of the bytes.
last : (o n : ℕ) (bytes part : List ℕ) → length bytes ≡ o + n → BytesAt o n part bytes → drop o bytes ≡ part
last o n bytes part e h = sym (take_all n (drop o bytes) (omega (arith, length-drop o bytes))) ∙ h

-- Bytes in an entry's layout are its fields in order.
pub entry_is : (e : Sqe) (bytes : List ℕ) → EntryLayout e bytes → bytes ≡ entry_bytes e
entry_is e bytes h =
    let a = next 0 1 1 bytes _ refl h.opcode in
    let b = next 1 1 2 bytes _ refl h.flags in
    let c = next 2 2 4 bytes _ refl h.ioprio in
    let d = next 4 4 8 bytes _ refl h.fd in
    let f = next 8 8 16 bytes _ refl h.off in
    let g = next 16 8 24 bytes _ refl h.addr in
    let i = next 24 4 28 bytes _ refl h.len in
    let j = next 28 4 32 bytes _ refl h.operation_flags in
    let k = next 32 8 40 bytes _ refl h.user_data in
    let l = next 40 2 42 bytes _ refl h.buf_index in
    let m = next 42 2 44 bytes _ refl h.personality in
    let n = next 44 4 48 bytes _ refl h.splice_fd_in in
    let o = last 48 16 bytes _ h.size h.rest in
    a ∙ rw (b, c, d, f, g, i, j, k, l, m, n, o) refl

-- Bytes in a completion's layout are its fields in order.
pub completion_is : (c : Cqe) (bytes : List ℕ) → CompletionLayout c bytes → bytes ≡ completion_bytes c
completion_is c bytes h =
    let a = next 0 8 8 bytes _ refl h.user_data in
    let b = next 8 4 12 bytes _ refl h.res in
    let d = last 12 4 bytes _ h.size h.flags in
    a ∙ rw (b, d) refl

-- Two unsigned numbers at the same offset with the same bytes are equal.
number_is : (o n x y : ℕ) (bytes : List ℕ) → x < 256 ^ n → y < 256 ^ n → NumberAt o n x bytes → NumberAt o n y bytes → x ≡ y
number_is o n x y bytes a b h i = same_number n x y a b (sym h ∙ i)

of_z_small : (x : ℤ) → FitsSigned w32 x → of_z w32 x < 256 ^ 4
of_z_small x f = omega (arith, ints)

signed_is : (o : ℕ) (x y : ℤ) (bytes : List ℕ) → FitsSigned w32 x → FitsSigned w32 y → SignedAt o 4 x bytes → SignedAt o 4 y bytes → x ≡ y
signed_is o x y bytes a b h i =
    let e : of_z w32 x ≡ of_z w32 y = number_is o 4 (of_z w32 x) (of_z w32 y) bytes (of_z_small x a) (of_z_small y b) h i in
    sym (to_z-of_z w32 x a) ∙ ap (to_z w32) e ∙ to_z-of_z w32 y b

abbrev completion_of : ℕ → ℤ → ℕ → Cqe
completion_of a1 a2 a3 = record { user_data = a1; res = a2; flags = a3 }

completion_of-same : (a1 b1 : ℕ) (a2 b2 : ℤ) (a3 b3 : ℕ)
    → a1 ≡ b1 → a2 ≡ b2 → a3 ≡ b3
    → completion_of a1 a2 a3 ≡ completion_of b1 b2 b3
completion_of-same a1 b1 a2 b2 a3 b3 e1 e2 e3 = rw (e1, e2, e3) refl

abbrev entry_of : ℕ → ℕ → ℕ → ℤ → ℕ → ℕ → ℕ → ℕ → ℕ → ℕ → ℕ → ℤ → List ℕ → Sqe
entry_of a1 a2 a3 a4 a5 a6 a7 a8 a9 a10 a11 a12 a13 = record { opcode = a1; flags = a2; ioprio = a3; fd = a4; off = a5; addr = a6; len = a7; operation_flags = a8; user_data = a9; buf_index = a10; personality = a11; splice_fd_in = a12; rest = a13 }

entry_of-same : (a1 b1 : ℕ) (a2 b2 : ℕ) (a3 b3 : ℕ) (a4 b4 : ℤ) (a5 b5 : ℕ) (a6 b6 : ℕ) (a7 b7 : ℕ) (a8 b8 : ℕ) (a9 b9 : ℕ) (a10 b10 : ℕ) (a11 b11 : ℕ) (a12 b12 : ℤ) (a13 b13 : List ℕ)
    → a1 ≡ b1 → a2 ≡ b2 → a3 ≡ b3 → a4 ≡ b4 → a5 ≡ b5 → a6 ≡ b6 → a7 ≡ b7 → a8 ≡ b8 → a9 ≡ b9 → a10 ≡ b10 → a11 ≡ b11 → a12 ≡ b12 → a13 ≡ b13
    → entry_of a1 a2 a3 a4 a5 a6 a7 a8 a9 a10 a11 a12 a13 ≡ entry_of b1 b2 b3 b4 b5 b6 b7 b8 b9 b10 b11 b12 b13
entry_of-same a1 b1 a2 b2 a3 b3 a4 b4 a5 b5 a6 b6 a7 b7 a8 b8 a9 b9 a10 b10 a11 b11 a12 b12 a13 b13 e1 e2 e3 e4 e5 e6 e7 e8 e9 e10 e11 e12 e13 = rw (e1, e2, e3, e4, e5, e6, e7, e8, e9, e10, e11, e12, e13) refl

pub same_completion : (c d : Cqe) (bytes : List ℕ) → CompletionFits c → CompletionFits d → CompletionLayout c bytes → CompletionLayout d bytes → c ≡ d
same_completion c d bytes f g h i =
    let p = number_is 0 8 c.user_data d.user_data bytes f.user_data g.user_data h.user_data i.user_data in
    let q = signed_is 8 c.res d.res bytes f.res g.res h.res i.res in
    let r = number_is 12 4 c.flags d.flags bytes f.flags g.flags h.flags i.flags in
    completion_of-same _ _ _ _ _ _ p q r

pub same_entry : (d e : Sqe) (bytes : List ℕ) → EntryFits d → EntryFits e → EntryLayout d bytes → EntryLayout e bytes → d ≡ e
same_entry d e bytes f g h i =
    let p1 = number_is 0 1 d.opcode e.opcode bytes f.opcode g.opcode h.opcode i.opcode in
    let p2 = number_is 1 1 d.flags e.flags bytes f.flags g.flags h.flags i.flags in
    let p3 = number_is 2 2 d.ioprio e.ioprio bytes f.ioprio g.ioprio h.ioprio i.ioprio in
    let p4 = signed_is 4 d.fd e.fd bytes f.fd g.fd h.fd i.fd in
    let p5 = number_is 8 8 d.off e.off bytes f.off g.off h.off i.off in
    let p6 = number_is 16 8 d.addr e.addr bytes f.addr g.addr h.addr i.addr in
    let p7 = number_is 24 4 d.len e.len bytes f.len g.len h.len i.len in
    let p8 = number_is 28 4 d.operation_flags e.operation_flags bytes f.operation_flags g.operation_flags h.operation_flags i.operation_flags in
    let p9 = number_is 32 8 d.user_data e.user_data bytes f.user_data g.user_data h.user_data i.user_data in
    let p10 = number_is 40 2 d.buf_index e.buf_index bytes f.buf_index g.buf_index h.buf_index i.buf_index in
    let p11 = number_is 42 2 d.personality e.personality bytes f.personality g.personality h.personality i.personality in
    let p12 = signed_is 44 d.splice_fd_in e.splice_fd_in bytes f.splice_fd_in g.splice_fd_in h.splice_fd_in i.splice_fd_in in
    let p13 : d.rest ≡ e.rest = sym h.rest ∙ i.rest in
    entry_of-same _ _ _ _ _ _ _ _ _ _ _ _ _ _ _ _ _ _ _ _ _ _ _ _ _ _ p1 p2 p3 p4 p5 p6 p7 p8 p9 p10 p11 p12 p13

-- A number that the layout places at an offset is the number read from that offset.
number_here : (o n x : ℕ) (bytes : List ℕ) → x < 256 ^ n → NumberAt o n x bytes → x ≡ number_at o n bytes
number_here o n x bytes l h = sym (ap (little_number n) h ∙ ap (little_number n) (sym (append-nil (little_bytes n x))) ∙ little_number-reads_back n x [] l)

signed_here : (o : ℕ) (z : ℤ) (bytes : List ℕ) → FitsSigned w32 z → SignedAt o 4 z bytes → z ≡ signed_at o bytes
signed_here o z bytes f h = sym (to_z-of_z w32 z f) ∙ ap (to_z w32) (number_here o 4 (of_z w32 z) bytes (of_z_small z f) h)

-- An entry whose layout fits some bytes is the entry read from them.
pub entry_here : (e : Sqe) (bytes : List ℕ) → EntryFits e → EntryLayout e bytes → e ≡ entry_of_bytes bytes
unfolding entry_of_bytes
entry_here e bytes f h =
    entry_of-same _ _ _ _ _ _ _ _ _ _ _ _ _ _ _ _ _ _ _ _ _ _ _ _ _ _
    (number_here 0 1 e.opcode bytes f.opcode h.opcode)
    (number_here 1 1 e.flags bytes f.flags h.flags)
    (number_here 2 2 e.ioprio bytes f.ioprio h.ioprio)
    (signed_here 4 e.fd bytes f.fd h.fd)
    (number_here 8 8 e.off bytes f.off h.off)
    (number_here 16 8 e.addr bytes f.addr h.addr)
    (number_here 24 4 e.len bytes f.len h.len)
    (number_here 28 4 e.operation_flags bytes f.operation_flags h.operation_flags)
    (number_here 32 8 e.user_data bytes f.user_data h.user_data)
    (number_here 40 2 e.buf_index bytes f.buf_index h.buf_index)
    (number_here 42 2 e.personality bytes f.personality h.personality)
    (signed_here 44 e.splice_fd_in bytes f.splice_fd_in h.splice_fd_in)
    (sym h.rest)
