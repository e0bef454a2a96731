-- What a source gives to its end.
use Rattle.std.proofs.Common.{◌≡◌, ℕ, List, [], ◌++◌, Option, Some, None, ap, ◌∙◌, sym, append-nil}
use Rattle.std.specs.Prelude.{IfSome}
use Rattle.std.specs.Io.KnownBytes.{IsAtEnd, Consumes}

-- At the end they are all the bytes of the source.
pub all_given : (old new : Option (List ℕ)) (bytes : List ℕ) → Consumes old new bytes
    → IsAtEnd new
    → IfSome old (λ all. bytes ≡ all)
all_given None new bytes given end = tt
all_given (Some xs) None bytes given end = absurd given
all_given (Some xs) (Some ys) bytes given end =
    sym (given ∙ ap (λ t. bytes ++ t) end ∙ append-nil bytes)

pub none_remaining : (old new : Option (List ℕ)) (bytes : List ℕ) → Consumes old new bytes
    → IsAtEnd new
    → IfSome old (λ _. new ≡ Some [])
none_remaining None new bytes given end = tt
none_remaining (Some xs) None bytes given end = absurd given
none_remaining (Some xs) (Some ys) bytes given end = ap Some end
