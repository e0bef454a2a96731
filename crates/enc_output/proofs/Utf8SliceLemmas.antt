-- What an output in UTF-8 shows.
use Rattle.std.proofs.Common.{◌≡◌, ℕ, ◌+◌, ◌-◌, ◌≤◌, List, ◌++◌, length, take, drop, ap, ◌∙◌, sym, ◌<◌, inl, inr, arith}
use Rattle.std.proofs.Common.{drop-drop}
use Rattle.std.proofs.lemmas.Bool.{cases_lt}
use Rattle.std.specs.Borrow.{GName}
use Rattle.std.specs.Prelude.{slice_index}
use Rattle.enc_utf8.proofs.LengthLemmas.{lengths}
use Rattle.enc_utf8.proofs.PutLemmas.{Put, put_length, put_front, put_rest, put_copied}
use Rattle.enc_output.specs.AsciiRun.{PutsAscii}
use Rattle.enc_output.specs.Output.{Output, with_appended, slice_output}
use Rattle.enc_utf8.specs.Text.{units_of_text}
use Rattle.enc_utf8.specs.Validity.{AreAscii}
use Rattle.enc_utf8.proofs.AsciiLemmas.{ascii_one}
use Rattle.enc_output.proofs.OutputLemmas.{same_output}
use borrow.Rule.Slice.PartMut.{put_mid}

-- a slice once bytes are put after its first elements
pub grown : {len n : ℕ} {dst bytes new : List ℕ} (borrow : GName) → Put len n dst bytes new
    → slice_output (len + n) new borrow ≡ with_appended (slice_output len dst borrow) bytes
grown {len} {n} {dst} borrow put =
    same_output borrow (put_front put) (omega (arith, put_length put, put.count))
    (put_rest put (len + n) (omega arith) ∙ sym (drop-drop n len dst)
    ∙ ap (λ m. drop m (drop len dst)) put.count)

-- ASCII at the front that is its own code units, up to a byte that is not or does not fit
pub puts_own : {units_of : ℕ → List ℕ}
    → ((bs : List ℕ) → AreAscii bs → units_of_text units_of bs ≡ bs)
    → {before after : Output} {src : List ℕ} {n : ℕ} → n ≤ length src → n ≤ before.room
    → AreAscii (take n src) → (n < length src → slice_index src n < 0x80 → before.room ≤ n)
    → after ≡ with_appended before (take n src) → PutsAscii units_of before after src n
puts_own own {before} {src = src} {n = n} within fits ascii full written =
    let units = own (take n src) ascii in
    record {
      within = within;
      ascii = ascii;
      fits = omega (arith, ap length units, lengths);
      written = written ∙ ap (with_appended before) (sym units);
      longest = λ more low.
          let longer = ap length (own (take (n + 1) src) (ascii_one n src ascii more low)) in
          omega (arith, full more low, longer, lengths);
    }

-- ASCII at the front, as much as fits, is stored after the first elements of a slice
pub puts_ascii : {units_of : ℕ → List ℕ} {len n : ℕ} {src : List ℕ} (dst new : List ℕ)
    (borrow : GName)
    → ((bs : List ℕ) → AreAscii bs → units_of_text units_of bs ≡ bs) → len ≤ length dst
    → n ≤ length src → n ≤ length (take (length dst - len) (drop len dst)) → AreAscii (take n src)
    → (n < length src → n < length (take (length dst - len) (drop len dst))
    → 0x80 ≤ slice_index src n)
    → new ≡ take n src ++ drop n (take (length dst - len) (drop len dst))
    → PutsAscii units_of (slice_output len dst borrow)
    (slice_output (len + n) (put_mid len (length dst - len) dst new) borrow) src n
puts_ascii {len = len} {n = n} {src = src} dst new borrow alone within read fits ascii ends
    stored =
    puts_own alone read (omega (arith, lengths)) ascii
    (λ more low. elim (cases_lt n (length dst - len)) [
      | inl less ↦ absurd (omega (arith, ends more (omega (arith, lengths)), low))
      | inr all ↦ all
    ])
    (grown borrow (put_copied len n dst src new within read (omega (arith, lengths)) stored))
