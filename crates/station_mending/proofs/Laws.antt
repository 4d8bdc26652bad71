-- The answer of mending as it is told. Assumes nothing.
use mathlib.Core.Path.{◌≡◌, sym}
use mathlib.Core.List.{List}
use Prim.Native.Nat.{ℕ}
use Rattle.mended_texts.specs.Mending.{text_mending_number, MendOutcome}
use Rattle.mended_texts.specs.declared.TextMending.{TextMending}
use Rattle.station_mending.specs.Told.{MendingTold, mended}

pub told_of : {r : ℕ} (a : TextMending) (t : List ℕ) {o : MendOutcome} → r ≡ text_mending_number a
    → ◌≡◌ {A = MendOutcome} (record { answer = a; text = t }) o → ◌≡◌ {A = MendingTold} (record { answer = r; text = t }) (mended o)
told_of a t e h = rw (sym h, e)
