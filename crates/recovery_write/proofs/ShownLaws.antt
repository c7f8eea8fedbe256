-- What the chip shows while a request stands open, between any two of its actions: a mount would find the book, or the book
-- with the request entered where it has a complete copy. Assumes nothing.
use Prim.Native.Nat.{ℕ, ◌<◌}
use mathlib.Core.Bool.{Bool, true, cond}
use mathlib.Core.List.{List}
use mathlib.Core.Path.{◌≡◌, refl, sym, ap, subst}
use native.Mathlib.Omega.{arith}
use Rattle.geometry.specs.declared.Geometry.{Geometry}
use Rattle.cells.specs.Bytes.{Bytes}
use Rattle.chip_array.specs.Device.{Setting}
use Rattle.bus.specs.Line.{Line, uncut_line}
use Rattle.operations.specs.Ends.{Called}
use Rattle.operations.specs.Trace.{ArrayOperation}
use Rattle.copies.specs.Pick.{at}
use Rattle.copies.specs.Current.{current_table, reading}
use Rattle.state.specs.declared.State.{State}
use Rattle.progress.specs.Progress.{Progress}
use Rattle.fill_tables.specs.Tables.{Tabled}
use Rattle.fill_cursor.specs.declared.Running.{Running}
use Rattle.recovery_stored.specs.Stored.{Stored}
use Rattle.recovery.specs.Book.{Book, Same, Change, entered}
use Rattle.recovery.specs.Copy.{has_copy}
use Rattle.recovery.specs.Recovery.{Spared}
use Rattle.write_laws.specs.Changing.{is_spent}
use Rattle.recovery_write.specs.Changed.{Agrees, MarkedBy, Proper, Changed}
use Rattle.recovery_write.proofs.DataLaws as phase
use Rattle.recovery_write.proofs.TableLaws as tables
use Rattle.recovery_write.proofs.PauseLaws as pause
use Rattle.recovery_write.proofs.TablePauseLaws as table-pause
use Rattle.recovery_write.proofs.ActLaws as act
use Rattle.recovery_write.proofs.ActLaws.At.{before_data, erase_data, in_data, before_table, erase_table, in_table_fact, has_ended}

pub record Shown (g : Geometry) (c : Change) (book : Book) (marked failed : ℕ → Bool) (array : List ℕ) (os : List ArrayOperation) : Type 0 where
  pub stored : Stored g array
  pub table : ℕ
  pub table_is : current_table g array ≡ at table
  pub reads : Same g (reading g array table) (cond (has_copy g array os) (entered g c book) book)
  pub marks : MarkedBy g array marked
  pub spared : Spared g marked failed os

halted_shown : (s : Setting) (c : Change) (book : Book) (marked failed : ℕ → Bool) (answer : ℕ) (p : Progress) → phase.Halted s c book marked failed answer p → Shown s.geometry c book marked failed p.line.chip.array p.started
halted_shown s c book marked failed answer p h =
    record { stored = h.stored; table = h.table; table_is = h.table_is; reads = h.reads; marks = h.marks; spared = h.spared }

changed_shown : (s : Setting) (c : Change) (book : Book) (marked failed : ℕ → Bool) (t : Tabled) → (t.answer ≡ 0 → ⊥) → Changed s c book marked failed t → Shown s.geometry c book marked failed t.progress.line.chip.array t.progress.started
changed_shown s c book marked failed t n h =
    record { stored = h.stored; table = h.table; table_is = h.table_is; reads = h.reads n; marks = h.marks; spared = h.spared }

-- the same chip, with no cycle left
abbrev spent_line : Line → Line
spent_line l = uncut_line l.chip 0

spent_called : (s : Setting) (l : Line) → Called s l → Called s (spent_line l)
spent_called s l called =
    record { is_valid = called.is_valid; array_long = called.array_long; register_long = called.register_long; history_long = called.history_long; mask_long = called.mask_long; ready = called.ready; legal = called.legal; uncut = refl }

module _ (s : Setting) (mask_bytes : Bytes s.mask) (first : Line) (called : Called s first) (st₀ : State) (c : Change) (book : Book) (marked₀ failed₀ : ℕ → Bool)
    (marks₀ : MarkedBy s.geometry first.chip.array marked₀) (agrees : Agrees s.geometry first.chip.array st₀ book failed₀) (proper : Proper s.geometry c) where
  abbrev g : Geometry
  g = s.geometry

  abbrev Shows : Progress → Type 0
  Shows p = Shown g c book marked₀ failed₀ p.line.chip.array p.started

  data_shown : (st : State) (f : Bool) (p : Progress) → phase.Mid s mask_bytes first called st₀ c book marked₀ failed₀ marks₀ agrees proper st f p → Shows p
  data_shown st f p m =
      halted_shown s c book marked₀ failed₀ 9 p ((phase.data_none s mask_bytes first called st₀ c book marked₀ failed₀ marks₀ agrees proper 9 is_spent (omega arith) (omega arith) st f p m).halted (λ z. omega (arith, z)))

  table_shown : (st₁ : State) (p₁ : Progress) (d : phase.Done s mask_bytes first called st₀ c book marked₀ failed₀ marks₀ agrees proper st₁ true p₁) (st : State) (p : Progress) → tables.Mid s mask_bytes first called st₀ c book marked₀ failed₀ marks₀ agrees proper st₁ true p₁ d st p → Shows p
  table_shown st₁ p₁ d st p m =
      changed_shown s c book marked₀ failed₀ _ (λ z. omega (arith, z)) (tables.table_none s mask_bytes first called st₀ c book marked₀ failed₀ marks₀ agrees proper st₁ true p₁ d 9 is_spent (omega arith) (omega arith) st p m)

  pub at_shown : {r : Running} {p : Progress} → act.At s mask_bytes first called st₀ c book marked₀ failed₀ marks₀ agrees proper r p → r.cursor.phase < 2 → Shows p
  at_shown {r} {p} (before_data w) h = data_shown w.st w.failed p w.mid
  at_shown {r} {p} (erase_data w) h = data_shown w.st w.failed p w.mid
  at_shown (in_data w) h =
      subst Shows (sym w.p_is)
      (halted_shown s c book marked₀ failed₀ 11 _
      (pause.paused_halted s mask_bytes first called st₀ c book marked₀ failed₀ marks₀ agrees proper (spent_line w.line) (spent_called s w.line w.line_called) w.line_high w.st w.failed w.fits w.A w.long_A w.before w.state_is w.rest w.clean w.block w.below w.may w.page w.started w.stands w.cycles refl))
  at_shown {r} {p} (before_table st₁ p₁ d w) h = table_shown st₁ p₁ d w.st p w.mid
  at_shown {r} {p} (erase_table st₁ p₁ d w) h = table_shown st₁ p₁ d w.st p w.mid
  at_shown (in_table_fact st₁ p₁ d w) h =
      subst Shows (sym w.p_is)
      (halted_shown s c book marked₀ failed₀ 11 _
      (table-pause.paused_halted s mask_bytes first called st₀ c book marked₀ failed₀ marks₀ agrees proper (spent_line w.line) (spent_called s w.line w.line_called) w.line_high st₁ true p₁ d w.st w.fits w.A w.long_A w.before w.state_is w.table w.rest w.block w.below w.may w.page w.started w.stands w.cycles refl))
  at_shown (has_ended w) h = absurd (omega (arith, h, ap (λ (x : Running). x.cursor.phase) w.r_is))
