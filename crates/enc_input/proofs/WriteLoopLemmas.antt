-- Characters of an input, UTF-8 or UTF-16, that a loop writes one after another.
use Rattle.std.proofs.Common.{◌≡◌, ℕ, ◌+◌, ◌-◌, ◌≤◌, List, ◌∷◌, ◌++◌, length, take, drop, ap, ◌∙◌, sym, subst, arith}
use Rattle.std.proofs.Common.{drop-drop}
use Rattle.std.proofs.lemmas.List.{length-take-le}
use lib.Lanes.{put_chunk}
use Rattle.enc_utf8.proofs.LengthLemmas.{lengths, rest_is}
use Rattle.enc_input.specs.Mappings.{WritesMapped, WritesThemselves, WritesFront}
use Rattle.enc_utf8.specs.Pieces.{AreWrittenAsThemselves}
use Rattle.enc_input.proofs.MappingLemmas.{maps_none, maps_ascii, maps_both, maps_one, same_length}
use Rattle.enc_utf8.proofs.PutLemmas.{Put, put_lanes}

-- the first lanes are stored

pub front_stored : {Means : List ℕ → ℕ → Type 0} {src before after : List ℕ} (at n : ℕ)
    (lanes : List ℕ) → take n lanes ≡ take n src → AreWrittenAsThemselves Means (take n lanes)
    → n ≤ length src → at + n ≤ length before
    → after ≡ take at before ++ (take n lanes ++ drop (at + n) before)
    → WritesThemselves Means src before after at n
front_stored {Means} {before = before} at n lanes same own within fits onto = record {
  within = within;
  ascii = subst (AreWrittenAsThemselves Means) same own;
  fits = fits;
  onto = onto ∙ ap (λ z. take at before ++ (z ++ drop (at + n) before)) same;
}

pub all_stored : {Means : List ℕ → ℕ → Type 0} (src before : List ℕ) (at m : ℕ) (lanes : List ℕ)
    → length lanes ≡ m → m ≤ length src → at + m ≤ length before
    → take m lanes ≡ take m src → AreWrittenAsThemselves Means (take m lanes)
    → WritesThemselves Means src before (put_chunk at before lanes) at m
all_stored src before at m lanes long within fits same own =
    front_stored at m lanes same own within fits (put_lanes m at before lanes fits long).onto

module _ {chars_in : List ℕ → List ℕ} {Rest : List ℕ → Type 0} {Means : List ℕ → ℕ
    → Type 0} where
  pub writes_none : {text before : List ℕ} {at : ℕ} → at ≤ length before → Rest text
      → WritesFront chars_in Rest Means text before before at 0 0
  writes_none {text} {before} {at} room rest = record {
    within = omega arith;
    rest = rest;
    writes = maps_none (chars_in text) before at room;
  }

  -- units that are characters by themselves
  pub writes_own : {text before after : List ℕ} {at n : ℕ}
      → WritesThemselves Means text before after at n → Rest (drop n text)
      → chars_in text ≡ take n text ++ chars_in (drop n text)
      → WritesFront chars_in Rest Means text before after at n n
  writes_own {text} {n = n} own rest reads = record {
    within = own.within;
    rest = rest;
    writes = maps_ascii own.ascii reads (record {
      count = sym (length-take-le n text own.within);
      fits = own.fits;
      onto = own.onto;
    });
  }

  -- one character of n units
  pub writes_one : {text bytes before after : List ℕ} {at n k c : ℕ} → Means bytes c
      → n ≤ length text → Rest (drop n text) → chars_in text ≡ c ∷ chars_in (drop n text)
      → Put at k before bytes after → WritesFront chars_in Rest Means text before after at n k
  writes_one means within rest reads put =
      record { within = within; rest = rest; writes = maps_one means reads put }

  -- more characters after them
  pub writes_then : {text before mid after : List ℕ} {at n m k j : ℕ}
      → WritesFront chars_in Rest Means text before mid at n m
      → WritesFront chars_in Rest Means (drop n text) mid after (at + m) k j
      → WritesFront chars_in Rest Means text before after at (n + k) (m + j)
  writes_then {text} {mid = mid} {after = after} {at = at} {n = n} {m = m} {k = k} {j = j} first
      then_more =
      let later = drop-drop k n text in
      record {
        within = omega (arith, lengths, first.within, then_more.within);
        rest = subst Rest later then_more.rest;
        writes = maps_both first.writes
            (subst (λ z. WritesMapped Means (chars_in (drop n text)) (chars_in z) mid after (at + m)
            j) later then_more.writes);
      }

  -- the first characters, where none were written before them
  pub writes_after_none : {text before mid after : List ℕ} {at n k j : ℕ} → n ≡ 0
      → WritesFront chars_in Rest Means text before mid at n n
      → WritesFront chars_in Rest Means text mid after at k j
      → WritesFront chars_in Rest Means text before after at k j
  writes_after_none {text} {before} {mid} {after} {at} {n} {k} {j} none first more =
      let place : at ≡ at + n = omega (arith, none) in
      let rest : text ≡ drop n text = sym (ap (λ m. drop m text) none) in
      let read : n + k ≡ k = omega (arith, none) in
      let count : n + j ≡ j = omega (arith, none) in
      rw (read, count) at (writes_then first
      (subst (λ t. WritesFront chars_in Rest Means t mid after (at + n) k j) rest
      (subst (λ a. WritesFront chars_in Rest Means text mid after a k j) place more)))

  -- the same, where the rest is a slice of its own
  pub writes_on : {text before mid after : List ℕ} {at n m k j : ℕ}
      → WritesFront chars_in Rest Means text before mid at n m
      → WritesFront chars_in Rest Means (take (length text - n) (drop n text)) mid after (at + m) k
      j
      → WritesFront chars_in Rest Means text before after at (n + k) (m + j)
  writes_on {text} {n = n} first more = writes_then first (rw (rest_is n text) at more)

-- the invariant of a loop that writes from `from` on, and has come to `at`
module _ (chars_in : List ℕ → List ℕ) (Rest : List ℕ → Type 0) (Means : List ℕ → ℕ → Type 0) where
  pub record Written (text first dst : List ℕ) (from read at : ℕ) : Type 0 where
    pub ahead : from ≤ at
    pub long : length dst ≡ length first
    pub room : at ≤ length dst
    pub front : WritesFront chars_in Rest Means text first dst from read (at - from)

module _ {chars_in : List ℕ → List ℕ} {Rest : List ℕ → Type 0} {Means : List ℕ → ℕ
    → Type 0} where
  pub written_from : {text first dst : List ℕ} {from n k : ℕ}
      → WritesFront chars_in Rest Means text first dst from n k
      → Written chars_in Rest Means text first dst from n (from + k)
  written_from {text} {first} {dst} {from} {n} {k} writes =
      let count : k ≡ from + k - from = omega arith in
      let long = same_length writes.writes in
      record {
        ahead = omega arith;
        long = long;
        room = omega (arith, long, writes.writes.fits);
        front = subst (WritesFront chars_in Rest Means text first dst from n) count writes;
      }

  -- the loop goes on
  -- nothing is written yet
  pub written_none : {text dst : List ℕ} {from : ℕ} → from ≤ length dst → Rest text
      → Written chars_in Rest Means text dst dst from 0 from
  written_none {text} {dst} {from} room rest =
      let same : from + 0 ≡ from = omega arith in
      subst (Written chars_in Rest Means text dst dst from 0) same
      (written_from (writes_none room rest))

  pub written_then : {text first dst new : List ℕ} {from read at n k : ℕ}
      → Written chars_in Rest Means text first dst from read at
      → WritesFront chars_in Rest Means (take (length text - read) (drop read text)) dst new at n k
      → Written chars_in Rest Means text first new from (read + n) (at + k)
  written_then {text} {first} {dst} {new} {from} {read} {at} {n} {k} written more =
      let place : at ≡ from + (at - from) = omega (arith, written.ahead) in
      let count : at - from + k ≡ at + k - from = omega (arith, written.ahead) in
      let long : length new ≡ length dst = same_length more.writes in
      record {
        ahead = omega (arith, written.ahead);
        long = long ∙ written.long;
        room = omega (arith, long, more.writes.fits);
        front = subst (WritesFront chars_in Rest Means text first new from (read + n)) count
            (writes_on written.front (rw place at more));
      }
