use Rattle.std.proofs.Common.{◌≡◌, ◌∙◌, sym, ap, ◌+◌, ◌-◌, ◌*◌, ◌/◌, ◌%◌, ◌^◌, ◌<◌, length, get_or, [], arith, List, ℕ}
use Rattle.std.specs.Simd.{first_chunks}
use Rattle.std.proofs.lemmas.List.{get_or-drop}
use Rattle.checksum.specs.Crc.{feed, feeds}
use Rattle.checksum.proofs.Laws.{feed_two, feeds_pair, feeds_last, feeds_none, joins}
use Rattle.checksum.proofs.Chunks.{chunk_at}
use Rattle.checksum.proofs.after.Goals as goal

pub loop-low-preserved : goal.loop-low-preserved
loop-low-preserved c =
    let xs : List ℕ = c.args.bytes.now in
    let n = length xs / 2 in
    let i = c.loop-low.low-index in
    let pairs : List (List ℕ) = c.as_chunks.result.0.now in
    let chunks : pairs ≡ first_chunks 2 n xs = c.as_chunks.ensures.front in
    let count : length pairs ≡ n = c.as_chunks.ensures.front_len in
    let more : i < length pairs = c.loop-low-test.true in
    let inside : i < n = omega arith in
    let fits : get_or xs (2 * i + 1) 0 < 2 ^ 8 = omega (arith, c.type_inv.bytes (2 * i + 1)) in
    let low : get_or (get_or pairs i []) 0 0 ≡ get_or xs (2 * i) 0 =
    let start : 2 * i + 0 ≡ 2 * i = omega arith in
    rw chunks (chunk_at 2 n i xs 0 inside (omega arith) ∙ ap (λ (k : ℕ). get_or xs k 0) start) in
    let high : get_or (get_or pairs i []) 1 0 ≡ get_or xs (2 * i + 1) 0 = rw chunks (chunk_at 2 n i xs 1 inside (omega arith)) in
    let pair = feeds_pair c.loop-low.s xs i inside in
    let two = feed_two c.loop-low.s (get_or xs (2 * i) 0) (get_or xs (2 * i + 1) 0) fits in
    rw (c.two_bytes-s.ensures, low, high, two) (sym pair ∙ c.loop-low.invariant)

-- the last byte is left
pub returns-in-len1-up : goal.returns-in-len1-up
unfolding feed
returns-in-len1-up c =
    let xs : List ℕ = c.args.bytes.now in
    let count : length c.as_chunks.result.0.now ≡ length xs / 2 = c.as_chunks.ensures.front_len in
    let left : length c.as_chunks.result.1.now ≡ length xs % 2 = c.as_chunks.ensures.back_len in
    let end : 2 * c.loop-low.low-index + 1 ≡ length xs = omega (arith, c.loop-low-test.false, c.loop-low.auto.low-index-end, c.in-len1-up.len_at_least) in
    let last = feeds_last c.loop-low.s xs (2 * c.loop-low.low-index) end in
    let byte : get_or c.as_chunks.result.1.now 0 0 ≡ get_or xs (length xs - 1) 0 =
    let place : length xs / 2 * 2 + 0 ≡ length xs - 1 = omega (arith, c.in-len1-up.len_at_least) in
    rw c.as_chunks.ensures.back (get_or-drop (length xs / 2 * 2) xs 0 0 ∙ ap (λ (k : ℕ). get_or xs k 0) place) in
    let whole : c.one_byte.result ≡ feeds c.args.register xs = rw (c.one_byte.ensures, byte) (sym last ∙ c.loop-low.invariant) in
    record { fed = whole; stretches_join = joins c.args.register xs c.one_byte.result whole }

-- nothing is left
pub returns-in-empty : goal.returns-in-empty
returns-in-empty c =
    let xs : List ℕ = c.args.bytes.now in
    let count : length c.as_chunks.result.0.now ≡ length xs / 2 = c.as_chunks.ensures.front_len in
    let left : length c.as_chunks.result.1.now ≡ length xs % 2 = c.as_chunks.ensures.back_len in
    let none = feeds_none c.loop-low.s xs (2 * c.loop-low.low-index) (omega (arith, c.loop-low-test.false, c.in-empty.len_below)) in
    let whole : c.loop-low.s ≡ feeds c.args.register xs = sym none ∙ c.loop-low.invariant in
    record { fed = whole; stretches_join = joins c.args.register xs c.loop-low.s whole }
