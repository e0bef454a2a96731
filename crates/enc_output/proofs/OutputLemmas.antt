-- Outputs that units are appended to.
use Rattle.std.proofs.Common.{◌≡◌, ℕ, ◌-◌, List, [], ◌++◌, length, drop, refl, ap, ◌∙◌}
use Rattle.std.proofs.Common.{arith, append_assoc, append-nil, length-append, drop-drop}
use Rattle.std.specs.Borrow.{GName}
use Rattle.enc_output.specs.Output.{Output, with_appended}

pub same_output : {w w' : List ℕ} {r r' : ℕ} {b b' : List ℕ} (n : GName) → w ≡ w' → r ≡ r' → b ≡ b'
    → (let one : Output = record { written = w; room = r; unwritten = b; borrow = n } in
    let other : Output = record { written = w'; room = r'; unwritten = b'; borrow = n } in
    one ≡ other)
same_output n e₁ e₂ e₃ = cc

pub with_appended-with_appended : (o : Output) (a b : List ℕ)
    → with_appended (with_appended o a) b ≡ with_appended o (a ++ b)
with_appended-with_appended o a b =
    same_output o.borrow (append_assoc o.written a b) (rw (length-append a b) (omega arith))
    (drop-drop (length b) (length a) o.unwritten
    ∙ ap (λ n. drop n o.unwritten) (rw (length-append a b) (omega arith)))

pub with_appended-nil : (o : Output) → with_appended o [] ≡ o
with_appended-nil o = same_output o.borrow (append-nil o.written) (omega arith) refl

-- the room that is left
pub room_left : (before after : Output) (wrote : List ℕ) → after ≡ with_appended before wrote
    → after.room ≡ before.room - length wrote
room_left before after wrote e = ap (λ (o : Output). o.room) e
