-- A write that is opened and finished in portions, with reads in between.
use Rattle.std.specs.Prelude.{ℕ, ◌+◌, cond, List, [], ◌∷◌, eqb, drop}
use Rattle.std.proofs.Math.Option.{Option, none, some}
use Rattle.geometry.specs.declared.Geometry.{Geometry}
use Rattle.chip_array.specs.Device.{Device, setting}
use Rattle.open_write.specs.Open.{OpenState, is_opened}
use Rattle.open_write.specs.Requests.{open_result, Advanced, advanced, reading_open, advancing_write}

-- what is called while a write is open: an advance, with the cycles that it may send and its page programs; or a read, with a mask, fate words,
-- an allowance and arguments of its own
pub data Between : Type 0 where
  advance : ℕ → ℕ → Between
  read : List ℕ → List ℕ → ℕ → ℕ → ℕ → List ℕ → Between

-- the same after this many cycles more
abbrev pub after : ℕ → Option Advanced → Option Advanced
after n none = none
after n (some r) =
    some (advanced (open_result r.returned.answer r.returned.state r.returned.chip (n + r.returned.sent)) r.finished)

-- the fate words that an advance leaves: one that was refused takes none
abbrev pub words_after : Advanced → List ℕ → List ℕ
words_after r fates = cond (eqb r.returned.answer 0) (drop r.returned.chip.interface.fate fates) fates

-- the advance that ended the write, with the cycles of all advances; none if it is still open after all calls, or a read gave it up. Each operation
-- of the write has the fate word that it has in the plain write: an advance gets those that the advances before it left, and a read takes none of
-- them. The mask is a call's, and the same in every advance
unfoldable pub portions : Geometry → List ℕ → List ℕ → List Between → OpenState → Device → Option Advanced
portions g mask fates [] x d = none
portions g mask fates (advance n most ∷ calls) x d =
    let r = advancing_write (setting g mask fates) d n x most in
    let more = portions g mask (words_after r fates) calls r.returned.state r.returned.chip in
    cond (is_opened r.returned.state) (after r.returned.sent more) (some r)
portions g mask fates (read m f n logical page buffer ∷ calls) x d =
    let r = reading_open (setting g m f) d n x logical page buffer in
    let more = portions g mask fates calls r.returned.state r.returned.chip in
    cond (is_opened r.returned.state) more none

-- the advances of a list
unfoldable pub without_reads : List Between → List Between
without_reads [] = []
without_reads (advance n most ∷ calls) = advance n most ∷ without_reads calls
without_reads (read m f n logical page buffer ∷ calls) = without_reads calls
