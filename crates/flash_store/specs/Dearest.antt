-- The dearest write as a program in C asks for it: what is handed back.
use Rattle.std.specs.Prelude.{ℕ, cond, List, [], ◌∷◌, eqb, length}
use Rattle.geometry.specs.declared.Geometry.{Geometry}
use Rattle.dearest.specs.Dearest.{Told, dearest_told}

-- the answer, and the two lent buffers as they are left
pub record DearestHanded : Type 0 where
  pub answer : ℕ
  pub words : List ℕ
  pub cycles : List ℕ

abbrev pub dearest_handed : ℕ → List ℕ → List ℕ → DearestHanded
dearest_handed answer words cycles = record { answer = answer; words = words; cycles = cycles }

abbrev pub dearest_out : Told → DearestHanded
dearest_out t = dearest_handed t.answer t.fates (t.cycles ∷ [])

-- lent is one word for the cycles; else 100, and nothing is changed
unfoldable pub dearest_lent : Geometry → ℕ → List ℕ → List ℕ → DearestHanded
dearest_lent g failed words cycles =
    cond (eqb (length cycles) 1) (dearest_out (dearest_told g failed words)) (dearest_handed 100 words cycles)
