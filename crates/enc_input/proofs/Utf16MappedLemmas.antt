-- Runs of characters that are read from UTF-16.
use Rattle.std.proofs.Common.{◌≡◌, ℕ, zero, suc, ◌+◌, ◌%◌, ◌<◌, ◌≤◌, false, List, [], ◌∷◌, length, map}
use Rattle.std.proofs.Common.{get_or, take, drop, refl, ap, ◌∙◌, sym, subst, arith, nat_le, nat_lt, ◌&&◌}
use Rattle.std.proofs.Common.{take-append-drop, set, ltb, lt-ltb, le-ltb, cond, min}
use Rattle.std.proofs.Common.{inl, inr, bit_or}
use Rattle.std.proofs.lemmas.Bool.{cases_lt, cond-true, cond-false}
use Rattle.std.proofs.lemmas.Bool.Decides.{nat_tests}
use Rattle.std.proofs.lemmas.List.{length-map, length-take-le, take-map, take-take, take_all, get_or-drop, get_or-take}
use Rattle.std.proofs.lemmas.Simd.{length-zip2}
use Rattle.std.specs.Char.Utf16.{utf16_lossy_chars}
use Rattle.enc_input.specs.Mappings.{AreAnyUnits, WritesFront, WritesThemselves}
use Rattle.enc_utf8.specs.Surrogates.{lossy_unit_char}
use Rattle.enc_utf8.specs.Validity.{AreAscii}
use Rattle.enc_utf8.specs.AsciiCopy.{CopiesAscii}
use Rattle.enc_utf8.proofs.AsciiLemmas.{copies_more, copies_none}
use Rattle.enc_utf8.proofs.UnitsLemmas.{lossy_lone, lossy_scalars}
use Rattle.enc_utf8.proofs.LaneLemmas.{all_fewer, both_below}
use Rattle.enc_utf8.proofs.PutLemmas.{put_one}
use Rattle.enc_utf8.proofs.ScalarLemmas.{ascii_scalars}
use Rattle.enc_utf8.proofs.LengthLemmas.{lengths}
use lib.Lanes.{put_chunk, zip2}
use Rattle.enc_input.proofs.WriteLoopLemmas.{writes_own, writes_one, writes_then}

low_unit : (u : ℕ) → u < 0x800 → lossy_unit_char u ≡ u
low_unit u h = let low : (nat_le 0xD800 u && nat_lt u 0xE000) ≡ false = grind (arith, nat_tests) in
    rw low refl

-- units below 0x80 are their own lower bytes
pub low_bytes : (us : List ℕ) → AreAscii us → map (λ u. u % 0x80) us ≡ us
low_bytes [] are_ascii = refl
low_bytes (u ∷ us) are_ascii =
    let is_ascii = are_ascii 0 0 (omega arith) in
    let low : u % 0x80 ≡ u = omega arith in
    ap (λ x. x ∷ map (λ u. u % 0x80) us) low
    ∙ ap (λ x. u ∷ x) (low_bytes us (λ k d l. are_ascii (suc k) d (omega arith)))

-- the first n lanes are the first n code units
pub own_lanes : (n m : ℕ) (us lanes : List ℕ) → n ≤ m → m ≤ 16
    → lanes ≡ map (λ u. u % 0x80) (take 16 us) → AreAscii (take m (take 16 us))
    → take n lanes ≡ take n us
own_lanes n m us lanes few most e a =
    let fewer : AreAscii (take n (take 16 us)) =
    all_fewer (λ u. u < 0x80) n m (take 16 us) few a in
    let same = take-take n 16 us (omega arith) in
    ap (take n) e ∙ take-map (λ u. u % 0x80) n (take 16 us) ∙ ap (map (λ u. u % 0x80)) same
    ∙ low_bytes (take n us) (subst AreAscii same fewer)

pub low_lanes_long : (us lanes : List ℕ) → lanes ≡ map (λ u. u % 0x80) (take 16 us)
    → 16 ≤ length us → length lanes ≡ 16
low_lanes_long us lanes e h = ap length e ∙ length-map (take 16 us) (λ u. u % 0x80)
    ∙ length-take-le 16 us h

-- code units that are characters by themselves are written
pub own_written : {Means : List ℕ → ℕ → Type 0} {units before after : List ℕ} {at n : ℕ}
    → WritesThemselves Means units before after at n
    → WritesFront utf16_lossy_chars AreAnyUnits Means units before after at n n
own_written {units = units} {n = n} own =
    writes_own own tt (ap utf16_lossy_chars (sym (take-append-drop n units))
    ∙ lossy_scalars (take n units) (drop n units)
    (ascii_scalars (take n units) (λ k d inside. (own.ascii k d inside).0)))

-- a first code unit below U+0800 is the first character
own_unit : (us : List ℕ) → 1 ≤ length us → get_or us 0 0 < 0x800
    → utf16_lossy_chars us ≡ get_or us 0 0 ∷ utf16_lossy_chars (drop 1 us)
own_unit [] some low = absurd (omega (arith, some))
own_unit (u ∷ us) some low =
    lossy_lone u us (λ p. omega (arith, p.0, low))
    ∙ ap (λ x. x ∷ utf16_lossy_chars us) (low_unit u low)

-- its byte is written
pub unit_written : {Means : List ℕ → ℕ → Type 0} {src dst : List ℕ} {at : ℕ} (byte : ℕ)
    → 1 ≤ length src → get_or src 0 0 < 0x800 → Means (byte ∷ []) (get_or src 0 0)
    → at < length dst
    → WritesFront utf16_lossy_chars AreAnyUnits Means src dst (set dst at byte) at 1 1
unit_written {src = src} {dst = dst} {at = at} byte some low means room =
    writes_one means some tt (own_unit src some low) (put_one at byte dst room)

-- and the bytes before it
pub unit_further : {Means : List ℕ → ℕ → Type 0} {src first dst : List ℕ} {at count : ℕ} (byte : ℕ)
    → WritesFront utf16_lossy_chars AreAnyUnits Means src first dst at count count
    → count < length src → get_or src count 0 < 0x800 → Means (byte ∷ []) (get_or src count 0)
    → at + count < length dst
    → WritesFront utf16_lossy_chars AreAnyUnits Means src first (set dst (at + count) byte) at
    (count + 1) (count + 1)
unit_further {src = src} {dst = dst} {at = at} {count = count} byte writes within low means room =
    let rest = drop count src in
    let here : get_or rest 0 0 ≡ get_or src count 0 =
    get_or-drop count src 0 0 ∙ ap (λ k. get_or src k 0) (omega arith) in
    writes_then writes (unit_written byte (omega (arith, lengths)) (omega (arith, here))
    (rw here means) room)

-- the first n code units are copied
pub copies_first : (n most : ℕ) (src old : List ℕ) {lanes : List ℕ} → most ≤ length src
    → most ≤ length old → n ≤ most → lanes ≡ take n src → AreAscii (take n src)
    → CopiesAscii src old (put_chunk 0 old lanes) most n
copies_first n most src old read room few are_lanes ascii =
    let all : 0 + n ≡ n = omega arith in
    rw all at (copies_more (copies_none src old most) read room n (omega arith) are_lanes ascii)

-- n code units are ASCII if the first m are, which are all of them
pub all_ascii : (us : List ℕ) {n m : ℕ} → length us ≡ n → n ≤ m → AreAscii (take m us)
    → AreAscii us
all_ascii us {m = m} long all ascii =
    subst AreAscii (take_all m us (omega (arith, long))) ascii

-- of sixteen code units and of sixteen more, by the bits that either has
pub both_halves : (src : List ℕ) {m : ℕ} → 32 ≤ length src → 16 ≤ m
    → AreAscii (take m (zip2 bit_or (take 16 src) (take 16 (drop 16 src))))
    → AreAscii (take 16 src) × AreAscii (take 16 (drop 16 src))
both_halves src long all ascii =
    let front = take 16 src in
    let back = take 16 (drop 16 src) in
    let same : length front ≡ length back = omega (arith, lengths) in
    let both : length (zip2 bit_or front back) ≡ 16 =
    omega (arith, lengths, length-zip2 bit_or front back same) in
    both_below 0x80 front back same (all_ascii (zip2 bit_or front back) both all ascii)

-- clamped units

pub least : (u m : ℕ) → cond (ltb u m) u m ≡ min u m
least u m = elim (cases_lt u m) [
  | inl below ↦ cond-true _ _ _ (lt-ltb u m below) ∙ omega arith
  | inr above ↦ cond-false _ _ _ (le-ltb u m above) ∙ omega arith
]

pub clamped_at : (us : List ℕ) (k : ℕ)
    → get_or (map (λ u. min u 0x7FF) us) k 0 ≡ min (get_or us k 0) 0x7FF
clamped_at [] k = refl
clamped_at (u ∷ us) zero = refl
clamped_at (u ∷ us) (suc k) = clamped_at us k

-- a clamped unit with a byte is the unit itself, where U+07FF has none
pub unclamped : (unit place byte : ℕ) → place ≡ min unit 0x7FF → 0 < byte
    → (place ≡ 0x7FF → byte ≡ 0) → (unit < 0x800) × (place ≡ unit)
unclamped unit place byte is some last = elim (cases_lt unit 0x7FF) [
  | inl low ↦ (omega (arith, low), omega (arith, is, low))
  | inr high ↦ absurd (omega (arith, some, last (omega (arith, is, high))))
]

-- of sixteen units that were loaded
pub place_is : (us places : List ℕ) (k : ℕ) → places ≡ map (λ u. min u 0x7FF) (take 16 us) → k < 16
    → get_or places k 0 ≡ min (get_or us k 0) 0x7FF
place_is us places k are below = ap (λ ps. get_or ps k 0) are ∙ clamped_at (take 16 us) k
    ∙ ap (λ u. min u 0x7FF) (get_or-take 16 us k 0 below)
