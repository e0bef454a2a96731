-- The bytes that a decoder holds between two bytes of the input, at most three.
use Rattle.std.specs.Prelude.{ℕ, Option, Some, None, List, [], ◌∷◌}
use Rattle.enc_decoder.specs.declared.pending.Pending.{Pending}
use Rattle.enc_decoder.specs.declared.pending.Pending.TheVariants.{Nothing, One, Two, Three}

abbrev pub bytes_of_pending : Pending → List ℕ
bytes_of_pending Nothing = []
bytes_of_pending (One a) = a ∷ []
bytes_of_pending (Two a b) = a ∷ b ∷ []
bytes_of_pending (Three a b c) = a ∷ b ∷ c ∷ []

abbrev pub first_byte : List ℕ → Option ℕ
first_byte [] = None
first_byte (a ∷ z) = Some a
