-- Steps that follow one another leave what the last of them leave.
use Rattle.std.proofs.Common.{◌≡◌, ℕ, ◌≤◌, Bool, true, false, Option, Some, None, List, [], ◌∷◌, ◌++◌, length, take}
use Rattle.std.proofs.Common.{drop}
use Rattle.std.proofs.Common.{refl, ap, ◌∙◌, sym, subst, arith, append_assoc, append-nil, length-append, length-drop}
use Rattle.std.proofs.lemmas.List.{length-take, take-append-drop}
use Rattle.std.proofs.lemmas.Slice.{drop-append-drop}
use Rattle.std.proofs.Math.Seq.{take-append_seam}
use Rattle.enc_encoder.specs.declared.character_set.CharacterSet.{CharacterSet}
use Rattle.enc_encoder.specs.EncoderRule.{EncoderRule, RawEncoderState, set_for}
use Rattle.enc_encoder.specs.Steps.{Step, char_step, first_written_char, escape_steps_before, steps_of}
use Rattle.enc_encoder.specs.Steps.{steps_from_state, step_chars, set_after_steps}
use Rattle.enc_input.specs.declared.encoder_result.EncoderResult.{EncoderResult}
use Rattle.enc_encoder.specs.Call.{EncoderCall}
use Rattle.enc_encoder.specs.ErrorMode.{CallInMode, IsCallInMode}
use Rattle.enc_encoder.specs.Writes.{Leaves, Adds, Place, Writes}
use Rattle.enc_encoder.proofs.StepLemmas.{step_chars-append, step_bytes-append, any_reported-append}
use Rattle.enc_encoder.proofs.StepLemmas.{set_after_steps-append}

pub no_step : (last : Bool) (v : RawEncoderState) (src : List ℕ) → Leaves last v v src src []
no_step last v src =
    record { reads = refl; remaining = refl; rule = refl; set = refl }

-- what a call leaves
pub leaves_of : {last : Bool} {old new : RawEncoderState} {src rest : List ℕ} {room : ℕ}
    {result : EncoderResult} {wrote : List ℕ}
    (call : EncoderCall old new src rest last room result wrote)
    → Leaves last old new src rest call.done
leaves_of call = record {
  reads = call.reads;
  remaining = call.remaining;
  rule = call.rule;
  set = call.set;
}

pub leaves_in_mode : {units_of : ℕ → List ℕ} {old new : RawEncoderState} {rest : List ℕ}
    {c : CallInMode}
    (call : IsCallInMode units_of old new rest c) → Leaves c.last old new c.src rest call.done
leaves_in_mode call = record {
  reads = call.reads;
  remaining = call.remaining;
  rule = call.rule;
  set = call.set;
}

-- the steps of both
pub leaves_on : {last : Bool} {u v w : RawEncoderState} {a b c : List ℕ} {ps qs : List Step}
    → Leaves last u v a b ps → Leaves last v w b c qs → Leaves last u w a c (ps ++ qs)
leaves_on {last} {u} {w = w} {c = c} {ps} {qs} first second = record {
  reads = rw (first.reads, second.reads, step_chars-append ps qs)
      (sym (append_assoc (step_chars ps) (step_chars qs) c));
  remaining = rw (first.remaining, second.remaining)
      (sym (append_assoc ps qs (steps_from_state w last c)));
  rule = second.rule ∙ first.rule;
  set = rw (second.set, first.set) (sym (set_after_steps-append u.set ps qs));
}

-- bytes after those already written
module _ {before mid a : List ℕ} {m n : ℕ} (first : Adds before mid m n a) where
  abbrev front : List ℕ
  front = take m before ++ a

  front_length : length front ≡ n
  front_length = rw (length-append, length-take) (omega (arith, first.count, first.fits))

  mid_is : mid ≡ front ++ drop n before
  mid_is = first.onto ∙ sym (append_assoc (take m before) a (drop n before))

  mid_length : length mid ≡ length before
  mid_length = rw (mid_is, length-append, length-drop) (omega (arith, front_length, first.fits))

  taken : take n mid ≡ front
  taken = rw (mid_is, sym front_length) (take-append_seam front (drop (length front) before))

  pub adds_on : {after b : List ℕ} {k : ℕ} → Adds mid after n k b → Adds before after m k (a ++ b)
  adds_on {b = b} {k} second = record {
    count = rw (length-append a b) (omega (arith, first.count, second.count));
    fits = omega (arith, second.fits, mid_length);
    onto =
        let dropped : drop k mid ≡ drop k before =
        ap (drop k) mid_is
        ∙ drop-append-drop n before front k (omega (arith, second.count)) front_length in
        rw (second.onto, taken, dropped)
        (append_assoc (take m before) a (b ++ drop k before)
        ∙ ap (λ x. take m before ++ x) (sym (append_assoc a b (drop k before))));
  }

pub adds_none : (slice : List ℕ) (at : ℕ) → at ≤ length slice → Adds slice slice at at []
adds_none slice at within =
    record { count = omega arith; fits = within; onto = sym (take-append-drop at slice) }

-- the length of the slice stays
pub same_length : {before after bytes : List ℕ} {m n : ℕ} → Adds before after m n bytes
    → length after ≡ length before
same_length adds = rw (adds.onto, length-append, length-append, length-take, length-drop)
    (omega (arith, adds.count, adds.fits))

-- the bytes written to the start of a slice, and the rest of it
pub written_bytes : {before after bytes : List ℕ} {n : ℕ} → Adds before after 0 n bytes
    → take n after ≡ bytes
written_bytes {before} {bytes = bytes} {n} adds =
    let count : n ≡ length bytes = omega (arith, adds.count) in
    rw (adds.onto, count) (take-append_seam bytes (drop (length bytes) before))

pub rest_stays : {before after bytes : List ℕ} {n : ℕ} → Adds before after 0 n bytes
    → drop n after ≡ drop n before
rest_stays {before} {bytes = bytes} {n} adds =
    ap (drop n) adds.onto
    ∙ drop-append-drop n before bytes n (omega arith) (omega (arith, adds.count))

pub writes_nothing : (last : Bool) (at : Place) → at.written ≤ length at.slice → Writes last at at
writes_nothing last at within = record {
  done = [];
  leaves = no_step last at.state at.rest;
  none_reported = refl;
  adds = adds_none at.slice at.written within;
}

pub writes_on : {last : Bool} {from mid to : Place} → Writes last from mid → Writes last mid to
    → Writes last from to
writes_on {from = from} {to = to} first second = record {
  done = first.done ++ second.done;
  leaves = leaves_on first.leaves second.leaves;
  none_reported = any_reported-append first.done second.done
      ∙ rw (first.none_reported, second.none_reported) refl;
  adds = subst (Adds from.slice to.slice from.written to.written)
      (sym (step_bytes-append first.done second.done)) (adds_on first.adds second.adds);
}

-- a character's step leaves the set in which it is written
after_char : (e : EncoderRule) (s s' : CharacterSet) (c : ℕ) (b : Option (List ℕ)) (ps : List Step)
    → set_after_steps s (char_step e s' c b ∷ ps) ≡ set_after_steps s' ps
after_char e s s' c None ps = refl
after_char e s s' c (Some b) ps = refl

steps_of-append : (e : EncoderRule) (last : Bool) (s : CharacterSet) (t z : List ℕ)
    → steps_of e last s (t ++ z) ≡ steps_of e false s t
    ++ steps_of e last (set_after_steps s (steps_of e false s t)) z
unfolding steps_of
steps_of-append e last s [] z = refl
steps_of-append e last s (c ∷ t) z =
    let first_char = first_written_char c (e.bytes c) in
    let set_now = set_for e s first_char in
    let before = escape_steps_before e s first_char in
    let step = char_step e set_now c (e.bytes c) in
    let front = steps_of e false set_now t in
    let set : set_after_steps s (before ++ (step ∷ front)) ≡ set_after_steps set_now front =
    set_after_steps-append s before (step ∷ front)
    ∙ after_char e (set_after_steps s before) set_now c (e.bytes c) front in
    rw (set, steps_of-append e last set_now t z)
    (sym (append_assoc before (step ∷ front) (steps_of e last (set_after_steps set_now front) z)))

-- steps that come first do so whatever follows the characters
pub whatever_follows : {last : Bool} {old new : RawEncoderState} {src rest : List ℕ}
    {done : List Step} → Leaves last old new src rest done
    → (z : List ℕ) → (last ≡ true → z ≡ [])
    → steps_from_state old true (src ++ z) ≡ done ++ steps_from_state new true (rest ++ z)
whatever_follows {last = true} {src = src} {rest} leaves z none =
    rw (none refl, append-nil src, append-nil rest) leaves.remaining
whatever_follows {last = false} {old} {new} {src} {rest} {done} leaves z none =
    let remaining = steps_from_state new false rest in
    let set_after : set_after_steps old.set (done ++ remaining)
    ≡ set_after_steps new.set remaining =
    set_after_steps-append old.set done remaining
    ∙ ap (λ s. set_after_steps s remaining) (sym leaves.set) in
    steps_of-append old.rule true old.set src z
    ∙ rw (leaves.remaining, set_after, ← leaves.rule, steps_of-append new.rule true new.set rest z)
    (append_assoc done remaining (steps_of new.rule true (set_after_steps new.set remaining) z))
