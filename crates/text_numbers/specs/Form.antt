-- Forms of text: a form says what stands at a place of a text, and where the place after it is.
--     bytes t              the bytes of a quoted text
--     Parsed A             a value of A with the place after it, or nothing
--     Form A               what is found at each place
--     _>>=_  _>>_  pure    one form after the other, nothing more
--     choose t p q         p if the test holds, else q
--     times k p            p, k times in a row
--     if_parsed g d x       g of what was found, d if nothing was
--     stands s at t        the bytes t stand in the text s from place `at` on; a byte past the end reads as 0, which stands in no form
--     literal s t          exactly the bytes t
--     many s t p k         zero or more of p, each after the bytes t; k is as many as there can be
use Rattle.std.specs.Prelude.{List, [], ◌∷◌, Bool, true, false, ◌&&◌, ℕ, zero, suc, ◌+◌, length, get_or, eqb}
use Prim.Native.Char.{code}
use Prim.Native.String.{String, [] as empty, ◌∷◌ as first}

abbrev pub bytes : String → List ℕ
bytes empty = []
bytes (first c t) = code c ∷ bytes t

pub data Parsed (A : Type 0) : Type 0 where
  parsed : A → ℕ → Parsed A
  unparsed : Parsed A

abbrev pub Form : Type 0 → Type 0
Form A = ℕ → Parsed A

-- the form that comes after what was found, from the place after it on
abbrev pub onward : {A B : Type 0} → (A → Form B) → Parsed A → Parsed B
onward f (parsed a n) = f a n
onward f unparsed = unparsed

infixl 10 ◌>>=◌ ◌>>◌
abbrev pub ◌>>=◌ : {A B : Type 0} → Form A → (A → Form B) → Form B
◌>>=◌ p f = λ at. onward f (p at)

abbrev pub ◌>>◌ : {A B : Type 0} → Form A → Form B → Form B
◌>>◌ p q = p >>= λ a. q

abbrev pub pure : {A : Type 0} → A → Form A
pure a = λ at. parsed a at

abbrev pub choose : {A : Type 0} → Bool → Form A → Form A → Form A
choose true p q = p
choose false p q = q

unfoldable pub times : {A : Type 0} → ℕ → Form A → Form (List A)
times zero p = pure []
times (suc k) p = do
  a ← p
  rest ← times k p
  pure (a ∷ rest)

abbrev pub if_parsed : {A R : Type 0} → (A → ℕ → R) → R → Parsed A → R
if_parsed g d (parsed a n) = g a n
if_parsed g d unparsed = d

module _ (s : List ℕ) where
  unfoldable pub stands : ℕ → List ℕ → Bool
  stands at [] = true
  stands at (b ∷ t) = eqb (get_or s at 0) b && stands (at + 1) t

  unfoldable pub literal : List ℕ → Form (Unit {0})
  literal t at = choose (stands at t) (λ n. parsed tt (n + length t)) (λ n. unparsed) at

  unfoldable pub many : {A : Type 0} → List ℕ → Form A → ℕ → Form (List A)
  many t p zero = pure []
  many t p (suc k) = λ at.
      choose (stands at t)
      (do
        literal t
        a ← p
        rest ← many t p k
        pure (a ∷ rest))
      (pure [])
      at
