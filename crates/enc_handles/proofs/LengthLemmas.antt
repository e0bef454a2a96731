-- What holds of a length holds of its number, unless that is the number of none.
use Rattle.std.proofs.Common.{◌≡◌, ◌≢◌, ℕ, Option, Some, None, IfSome, subst, sym}
use Rattle.enc_handles.specs.Outcomes.{number_of_length}

pub of_known_length : (Holds : ℕ → Type 0) (length : Option ℕ) (number : ℕ)
    → number ≡ number_of_length length → IfSome length Holds
    → number ≢ 18446744073709551615 → Holds number
of_known_length Holds None number is holds known = absurd (known is)
of_known_length Holds (Some n) number is holds known = subst Holds (sym is) holds
