-- The search for a byte order mark at the start of the input, one byte at a time (Encoding Standard
-- 6, "BOM sniff").
use Rattle.std.specs.Prelude.{◌≡◌, ℕ, Bool, true, false, List, [], ◌∷◌, ◌++◌, length, take, drop, Some, None}
use Rattle.enc_stream.specs.declared.encoding.Encoding.{Encoding}
use Rattle.enc_stream.specs.declared.life_cycle.LifeCycle.{LifeCycle}
use Rattle.enc_stream.specs.declared.life_cycle.MarkByte.{MarkByte}
use Rattle.enc_stream.specs.declared.life_cycle.MarkByte.TheVariants.{Holds, Ends, RulesOut}
use Rattle.enc_stream.specs.declared.sniffing.Sniffed.{Sniffed}
use Rattle.enc_stream.specs.declared.sniffing.Sniffed.TheVariants.{Open, Text}
use Rattle.enc_stream.specs.declared.sniffing.Sniffed.TheVariants as sniffed
use Rattle.enc_stream.specs.Bom.{Mark, find_mark, marks_begun}
use Rattle.enc_stream.specs.LifeCycle.{marks_of, awaits_mark, held_mark_bytes}

-- The bytes x lead from one state to another, which holds them too. The byte order marks that may
-- still come are those that the held bytes begin.
pub record ExtendsHeldMark (old new : LifeCycle) (x : List ℕ) : Type 0 where
  pub held : held_mark_bytes old ++ x ≡ held_mark_bytes new
  pub awaits : awaits_mark new ≡ awaits_mark old
  pub marks : marks_of new ≡ marks_begun (marks_of old) (held_mark_bytes new)
  pub unmarked : find_mark (marks_of old) (held_mark_bytes new) ≡ None
  pub stays : awaits_mark old ≡ false → new ≡ old

-- The bytes x complete a byte order mark of the encoding e.
pub record CompletesMark (life : LifeCycle) (x : List ℕ) (e : Encoding) : Type 0 where
  pub mark : Mark
  pub is_encoding : mark.encoding ≡ e
  pub whole : held_mark_bytes life ++ x ≡ mark.bytes
  pub found : (y : List ℕ) → find_mark (marks_of life) (mark.bytes ++ y) ≡ Some mark
  pub none_begun : (y : List ℕ) → marks_begun (marks_of life) (mark.bytes ++ y) ≡ []
  pub awaits : awaits_mark life ≡ true

-- After the bytes held, this byte belongs to no byte order mark, whatever follows it.
pub record ExcludesMarks (life : LifeCycle) (b : ℕ) : Type 0 where
  pub no_mark : (y : List ℕ) → find_mark (marks_of life) (held_mark_bytes life ++ b ∷ y) ≡ None
  pub none_begun : (y : List ℕ) → marks_begun (marks_of life) (held_mark_bytes life ++ b ∷ y) ≡ []

-- No byte order mark precedes these bytes, which nothing follows if `last`.
pub record HasNoMark (life : LifeCycle) (src : List ℕ) (last : Bool) : Type 0 where
  pub rules_out : (b : ℕ) (z : List ℕ) → src ≡ b ∷ z → ExcludesMarks life b
  pub ends : src ≡ [] → awaits_mark life ≡ true → last ≡ true

-- the effect of a byte
abbrev pub IsMarkByte : LifeCycle → ℕ → MarkByte → Type 0
IsMarkByte life b (Holds new) = ExtendsHeldMark life new (b ∷ [])
IsMarkByte life b (Ends e) = CompletesMark life (b ∷ []) e
IsMarkByte life b RulesOut = ExcludesMarks life b

-- the result of the search, and how many bytes of the input it is about
abbrev pub IsSniffed : LifeCycle → List ℕ → Bool → Sniffed → ℕ → Type 0
IsSniffed life src last (Open new) n =
    (n ≡ length src) × (last ≡ false) × (awaits_mark new ≡ true)
    × ExtendsHeldMark life new src
IsSniffed life src last (sniffed.Mark e) n = CompletesMark life (take n src) e
IsSniffed life src last (Text new) n = ExtendsHeldMark life new (take n src)
    × HasNoMark new (drop n src) last
