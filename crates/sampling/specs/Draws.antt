-- The random numbers of a run. Each is a pure function of the run's key.
use Rattle.std.specs.Prelude.{ℕ, ◌+◌, ◌*◌, ◌/◌, ◌%◌, ◌^◌, ◌++◌, bit_xor, replicate, slice_index, ◌∷◌, [], if◌then◌else◌}
use Rattle.std.specs.Int.{w64, to_le_bytes}
use Rattle.rand_chacha.specs.ChaCha.{key_of as words_of, word_at}
use Rattle.sampling.specs.declared.draws.SampleOptions.{SampleOptions}
use Rattle.sampling.specs.declared.draws.Source.{Source}

-- ---- Words

-- The words of ChaCha8, which has four double rounds. The seed is the number's eight bytes, lowest
-- first, and 24 zeros.
abbrev pub word_of : ℕ → ℕ → ℕ → ℕ
word_of seed stream position =
    word_at 4 (words_of (to_le_bytes w64 seed ++ replicate 24 0)) stream position

-- The key of a run: the first two words of its stream, the low one first.
unfoldable pub key_of : ℕ → ℕ → ℕ
key_of seed number = word_of seed number 0 + word_of seed number 1 * 2 ^ 32

-- ---- Draws

-- The number with its high bits folded down by k places, times m.
abbrev pub fold_mul : ℕ → ℕ → ℕ → ℕ
fold_mul z k m = bit_xor z (z / 2 ^ k) * m % 2 ^ 64

-- The finalizer of SplitMix64 (Steele, Lea and Flood, Fast Splittable Pseudorandom Number
-- Generators, 2014).
unfoldable pub finalized : ℕ → ℕ
finalized z =
    let y = fold_mul (fold_mul z 30 0xbf58476d1ce4e5b9) 27 0x94d049bb133111eb in
    bit_xor y (y / 2 ^ 31)

-- Number n of SplitMix64 with this seed, which advances by the golden gamma.
unfoldable pub draw : ℕ → ℕ → ℕ
draw seed n = finalized ((seed + n * 0x9e3779b97f4a7c15 % 2 ^ 64) % 2 ^ 64)

-- The draw of an actor at a position.
abbrev pub mixed : ℕ → ℕ → ℕ → ℕ
mixed key actor position = draw (draw key actor) position

-- A drawn number scaled to the numbers below n.
abbrev pub below : ℕ → ℕ → ℕ
below n word = word * n / 2 ^ 64

-- ---- The source of a run

-- Device faults have rates, in tenths, that are drawn once for a run. The positions of these draws
-- belong to no actor.
abbrev pub short_tenths : ℕ → ℕ
short_tenths key = slice_index (0 ∷ 0 ∷ 1 ∷ 5 ∷ []) (below 4 (mixed key (2 ^ 20) 0))

abbrev pub eio_tenths : ℕ → ℕ
eio_tenths key = slice_index (0 ∷ 0 ∷ 1 ∷ 3 ∷ []) (below 4 (mixed key (2 ^ 20) 1))

-- What run `number` of a seed draws from.
abbrev pub source_of : SampleOptions → ℕ → ℕ → Source
source_of options seed number = record {
  key = key_of seed number;
  short_tenths = if options.sound_device then 0 else short_tenths (key_of seed number);
  eio_tenths = if options.sound_device then 0 else eio_tenths (key_of seed number);
  unlocked = options.unlocked;
  late = options.late;
}
