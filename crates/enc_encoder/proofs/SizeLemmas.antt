-- How many bytes a character has at most, by how its bytes are made.
use Rattle.std.proofs.Common.{ℕ, ◌≤◌, Bool, true, false, nat_lt, Option, Some, None, List, [], ◌∷◌, length, arith}
use Rattle.std.proofs.Common.{if◌then◌else◌}
use Rattle.enc_encoder.specs.EncoderRule.{AreAtMostFour}
use Rattle.enc_encoder.specs.Text.{list_or_empty}
use Rattle.enc_encoder.specs.Stateless.{with_ascii, bytes_of_pointer, WritesAtMostFour}

-- how many bytes a character has, or none where it is unmappable
abbrev pub size : Option (List ℕ) → ℕ
size b = length (list_or_empty b)

-- by how the bytes are made

pub up_to_if : (n : ℕ) (b : Bool) (x y : Option (List ℕ)) → size x ≤ n → size y ≤ n
    → size (if b then x else y) ≤ n
up_to_if n true x y h k = h
up_to_if n false x y h k = k

pub up_to_by : (n : ℕ) (pair : ℕ → List ℕ) (p : Option ℕ) → ((i : ℕ) → length (pair i) ≤ n)
    → size (bytes_of_pointer pair p) ≤ n
up_to_by n pair None h = omega arith
up_to_by n pair (Some i) h = h i

pub up_to_ascii : (n : ℕ) (others : ℕ → Option (List ℕ)) (c : ℕ) → 1 ≤ n → size (others c) ≤ n
    → size (with_ascii others c) ≤ n
up_to_ascii n others c l h =
    up_to_if n (nat_lt c 0x80) (Some (c ∷ [])) (others c) (omega (arith, l)) h

-- no more than four

pub few_if_up_to : (n : ℕ) (b : Option (List ℕ)) → n ≤ 4 → size b ≤ n → AreAtMostFour b
few_if_up_to n None l h = tt
few_if_up_to n (Some b) l h = omega (arith, l, h)

pub are_few : (n : ℕ) (bytes : ℕ → Option (List ℕ)) → n ≤ 4 → ((c : ℕ) → size (bytes c) ≤ n)
    → WritesAtMostFour bytes
are_few n bytes l h = record { few = λ c. few_if_up_to n (bytes c) l (h c) }
