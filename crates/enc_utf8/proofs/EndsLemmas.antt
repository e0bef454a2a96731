-- The offsets at which four characters of one byte or two end, by which bytes lead a pair.
use Rattle.std.proofs.Common.{◌≡◌, ◌∙◌, ℕ, ◌+◌, ◌-◌, ◌/◌, ◌%◌, ◌^◌, ◌<◌, Bool, true, eqb, eqb-true, List, []}
use Rattle.std.proofs.Common.{get_or, refl, ap, sym, arith, suc}
use Rattle.std.proofs.lemmas.Nat.{field_of}
use Rattle.std.proofs.Math.Pow.{mod-mod-pow}
use Rattle.enc_utf8.specs.declared.ends.TheConstants.{ENDS}
use Rattle.enc_utf8.specs.Ends.{four_ends, end_after}
use Rattle.enc_utf8.proofs.TestLemmas.{every, every_passes}

abbrev pub bit_at : ℕ → ℕ → ℕ
bit_at mask place = mask / 2 ^ place % 2

-- a character ends one byte after its first, or two if that is a lead
abbrev ends_next : ℕ → ℕ → Bool
ends_next mask k =
    let ends = get_or ENDS mask [] in
    eqb (get_or ends k 0) (end_after ends k + 1 + bit_at mask (end_after ends k))

all_end : every 256 (λ mask. every 4 (ends_next mask)) ≡ true
unfolding every
all_end = refl

low_bit : (mask place : ℕ) → place < 8 → bit_at (mask % 0x100) place ≡ bit_at mask place
low_bit mask place below =
    let width : 8 ≡ 7 - place + 1 + place = omega arith in
    ap (λ n. mask % 2 ^ n / 2 ^ place % 2) width
    ∙ ap (λ n. n % 2) (field_of mask (7 - place + 1) place)
    ∙ mod-mod-pow (mask / 2 ^ place) (7 - place) 1

-- where a character ends, by where the one before it does
pub end_is : (leads k read : ℕ) (ends : List ℕ) → ends ≡ four_ends leads → k < 4
    → read ≡ end_after ends k → read < 8 → get_or ends k 0 ≡ read + 1 + bit_at leads read
end_is leads k read ends ends_are below read_is few =
    let mask = leads % 0x100 in
    let tests = every_passes 256 (λ mask. every 4 (ends_next mask)) all_end mask (omega arith) in
    let next = eqb-true _ _ (every_passes 4 (ends_next mask) tests k below) in
    let before = read_is ∙ ap (λ row. end_after row k) ends_are in
    ap (λ row. get_or row k 0) ends_are ∙ next
    ∙ ap (λ at. at + 1 + bit_at mask at) (sym before) ∙ ap (λ bit. read + 1 + bit)
    (low_bit leads read few)

pub end_next : (ends : List ℕ) (k : ℕ) → get_or ends k 0 ≡ end_after ends (k + 1)
end_next ends k = ap (end_after ends) (let next : suc k ≡ k + 1 = omega arith in next)
