-- The laws of turns and of filled lists. Assumes nothing.
--     turns-none, turns-turn, turns-end      for a loop: before the first turn, after one turn more, after the last
--     turns_more                  one turn more
--     turns-cong                  turns that do the same come to the same
--     turns-keep                  what each turn keeps holds at the end
--     turns_same, turns-other     what is read at a key after each turn has put a value at a key of its own
--     filled_none, filled-turn, filled-end   for a loop that fills a list: nothing filled, one element more, all of them
--     filled-cong                 lists that are filled with the same elements are the same
--     get_or-filled                 the elements of a filled list
use mathlib.Core.Path.{◌≡◌, refl, sym, ◌∙◌, ap}
use mathlib.Core.List.{List}
use mathlib.Core.Logic.{◌≢◌}
use Prim.Native.Nat.{ℕ, zero, suc, ◌+◌, ◌≤◌, ◌<◌}
use native.Mathlib.Numerals.{add-one}
use native.Mathlib.Omega.{arith}
use native.Mathlib.Decide.{ℕ_discrete}
use lib.ListN.{length, get_or, set, length-set}
use lib.Seq.{get_or-set_same, get_or-set_other}
use Rattle.refined_meshes.specs.Turns.{turns, filled}

module _ {A : Type 0} where
  pub turns-none : (turn : ℕ → A → A) (s : A) → s ≡ turns 0 turn s
  unfolding turns
  turns-none turn s = refl

  pub turns-suc : (n : ℕ) (turn : ℕ → A → A) (s : A) → turns (suc n) turn s ≡ turn n (turns n turn s)
  unfolding turns
  turns-suc n turn s = refl

  pub turns_more : (n : ℕ) (turn : ℕ → A → A) (s : A) → turns (n + 1) turn s ≡ turn n (turns n turn s)
  turns_more n turn s = rw add-one (turns-suc n turn s)

  pub turns-turn : (turn : ℕ → A → A) (i : ℕ) (s s0 : A) → s ≡ turns i turn s0 → turn i s ≡ turns (i + 1) turn s0
  turns-turn turn i s s0 h = ap (turn i) h ∙ sym (turns_more i turn s0)

  pub turns-end : (turn : ℕ → A → A) (i n : ℕ) (s0 : A) → i ≡ n → turns i turn s0 ≡ turns n turn s0
  turns-end turn i n s0 h = ap (λ (k : ℕ). turns k turn s0) h

  pub turns-keep :
      (n : ℕ) (turn : ℕ → A → A) (I : ℕ → A → Type 0) → ((i : ℕ) (s : A) → i < n → I i s → I (suc i) (turn i s)) → (s : A) → I 0 s
      → I n (turns n turn s)
  unfolding turns
  turns-keep zero turn I step s h = h
  turns-keep (suc n) turn I step s h =
      step n (turns n turn s) (omega arith) (turns-keep n turn I (λ i x l. step i x (omega arith)) s h)

  -- The turns need agree only below n.
  pub turns-cong :
      (n : ℕ) (turn turn' : ℕ → A → A) → ((i : ℕ) (s : A) → i < n → turn i s ≡ turn' i s) → (s : A) → turns n turn s ≡ turns n turn' s
  unfolding turns
  turns-cong zero turn turn' h s = refl
  turns-cong (suc n) turn turn' h s =
      h n (turns n turn s) (omega arith) ∙ ap (turn' n) (turns-cong n turn turn' (λ i x l. h i x (omega arith)) s)

  -- What no turn changes.
  pub turns-view :
      {B : Type 0} (n : ℕ) (turn : ℕ → A → A) (view : A → B) → ((i : ℕ) (s : A) → view (turn i s) ≡ view s) → (s : A)
      → view (turns n turn s) ≡ view s
  unfolding turns
  turns-view zero turn view h s = refl
  turns-view (suc n) turn view h s = h n (turns n turn s) ∙ turns-view n turn view h s

  pub turns-stay :
      {B : Type 0} (n : ℕ) (turn : ℕ → A → A) (Ok : A → Type 0) → ((i : ℕ) (s : A) → Ok s → Ok (turn i s)) → (view : A → B)
      → ((i : ℕ) (s : A) → Ok s → view (turn i s) ≡ view s) → (s : A) → Ok s → view (turns n turn s) ≡ view s
  turns-stay n turn Ok ok view h s o =
      (turns-keep n turn (λ i x. Ok x × (view x ≡ view s)) (λ i x l q. (ok i x q.0, h i x q.0 ∙ q.1)) s (o, refl)).1

  module _
      {K B : Type 0} (turn : ℕ → A → A) (Ok : A → Type 0) (ok : (i : ℕ) (s : A) → Ok s → Ok (turn i s)) (get : A → K → B) (key : ℕ → K)
    where
      pub turns-ok : (n : ℕ) (s : A) → Ok s → Ok (turns n turn s)
      turns-ok n s h = turns-keep n turn (λ i x. Ok x) (λ i x l o. ok i x o) s h

      pub turns-other :
          (n : ℕ) → ((i : ℕ) (s : A) (x : K) → i < n → Ok s → x ≢ key i → get (turn i s) x ≡ get s x) → (s : A) → Ok s → (x : K)
          → ((i : ℕ) → i < n → x ≢ key i) → get (turns n turn s) x ≡ get s x
      unfolding turns
      turns-other zero other s o x h = refl
      turns-other (suc n) other s o x h =
          other n (turns n turn s) x (omega arith) (turns-ok n s o) (h n (omega arith))
          ∙ turns-other n (λ i y z l. other i y z (omega arith)) s o x (λ i l. h i (omega arith))

      pub turns_same :
          (n : ℕ) (val : ℕ → B) → ((i : ℕ) (s : A) → i < n → Ok s → get (turn i s) (key i) ≡ val i)
          → ((i : ℕ) (s : A) (x : K) → i < n → Ok s → x ≢ key i → get (turn i s) x ≡ get s x)
          → ((i j : ℕ) → i < n → j < n → key i ≡ key j → i ≡ j)
          → (s : A) → Ok s → (i : ℕ) → i < n → get (turns n turn s) (key i) ≡ val i
      unfolding turns
      turns_same zero val same other injective s o i h = absurd (omega arith)
      turns_same (suc n) val same other injective s o i h =
          go
          (turns_same n val (λ i y l. same i y (omega arith)) (λ i y z l. other i y z (omega arith))
          (λ i j l k. injective i j (omega arith) (omega arith)) s o i)
          (ℕ_discrete i n)
        where
          go : (i < n → get (turns n turn s) (key i) ≡ val i) → Dec (i ≡ n) → get (turns (suc n) turn s) (key i) ≡ val i
          go ih (yes e) = rw e (same n (turns n turn s) (omega arith) (turns-ok n s o))
          go ih (no e) =
              other n (turns n turn s) (key i) (omega arith) (turns-ok n s o) (λ q. e (injective i n h (omega arith) q))
              ∙ ih (omega arith)

-- ---- filled lists

module _ {A : Type 0} where
  pub filled_none : (g : ℕ → A) (xs : List A) → xs ≡ filled 0 g xs
  unfolding filled
  filled_none g xs = turns-none (λ i ys. set ys i (g i)) xs

  pub filled-turn : (g : ℕ → A) (i : ℕ) (ys xs : List A) (v : A) → ys ≡ filled i g xs → v ≡ g i → set ys i v ≡ filled (i + 1) g xs
  unfolding filled
  filled-turn g i ys xs v h e = ap (set ys i) e ∙ turns-turn (λ i ys. set ys i (g i)) i ys xs h

  pub filled-end : (g : ℕ → A) (i n : ℕ) (xs : List A) → i ≡ n → filled i g xs ≡ filled n g xs
  filled-end g i n xs h = ap (λ (k : ℕ). filled k g xs) h

  pub filled-cong : (n : ℕ) (g g' : ℕ → A) (xs : List A) → ((i : ℕ) → i < n → g i ≡ g' i) → filled n g xs ≡ filled n g' xs
  unfolding filled
  filled-cong n g g' xs h = turns-cong n (λ i ys. set ys i (g i)) (λ i ys. set ys i (g' i)) (λ i ys l. ap (set ys i) (h i l)) xs

  pub get_or-filled : (n : ℕ) (g : ℕ → A) (xs : List A) (d : A) → n ≤ length xs → (i : ℕ) → i < n → get_or (filled n g xs) i d ≡ g i
  unfolding filled
  get_or-filled n g xs d h i l =
      turns_same (λ i ys. set ys i (g i)) (λ ys. length ys ≡ length xs) (λ i ys o. length-set ys i (g i) ∙ o) (λ ys i. get_or ys i d) (λ i. i)
      n g (λ i ys k o. get_or-set_same ys i (g i) d (omega arith)) (λ i ys j k o q. get_or-set_other ys i j (g i) d q) (λ i j k k' q. q)
      xs refl i l
