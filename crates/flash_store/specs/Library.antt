-- The requests as a program in C makes them: lent buffers and numbers in, an answer and the buffers as they are left.
use Rattle.std.specs.Prelude.{ℕ, cond, List}
use Rattle.chip_array.specs.Device.{Setting}
use Rattle.scan_summary.specs.declared.Depth.{Depth}
use Rattle.open_write.specs.Requests.{OpenResult, OpenRead, reading_open, writing_open, erasing_open, formatting_open, mounting_open}
use Rattle.c_buffers.specs.Buffers.{Lent, state_of, chip_of, rightly, Handed, answered}

-- the requests on the state and the chip that are lent; n: the cycles allowed
abbrev pub format_result : Setting → Lent → ℕ → OpenResult
format_result s l n = formatting_open s (chip_of l) n (state_of l)

abbrev pub mount_result : Depth → Setting → Lent → ℕ → OpenResult
mount_result depth s l n = mounting_open depth s (chip_of l) n (state_of l)

abbrev pub read_page : Setting → Lent → ℕ → ℕ → ℕ → List ℕ → OpenRead
read_page s l n logical page buffer = reading_open s (chip_of l) n (state_of l) logical page buffer

abbrev pub write_result : Setting → Lent → ℕ → ℕ → ℕ → List ℕ → OpenResult
write_result s l n logical page bytes = writing_open s (chip_of l) n (state_of l) logical page bytes

abbrev pub erase_result : Setting → Lent → ℕ → ℕ → OpenResult
erase_result s l n logical = erasing_open s (chip_of l) n (state_of l) logical

unfoldable pub formatting_lent : Setting → Lent → ℕ → Handed
formatting_lent s l n = answered l (format_result s l n)

unfoldable pub mounting_lent : Depth → Setting → Lent → ℕ → Handed
mounting_lent depth s l n = answered l (mount_result depth s l n)

unfoldable pub writing_lent : Setting → Lent → ℕ → ℕ → ℕ → List ℕ → Handed
writing_lent s l n logical page bytes = answered l (write_result s l n logical page bytes)

unfoldable pub erasing_lent : Setting → Lent → ℕ → ℕ → Handed
erasing_lent s l n logical = answered l (erase_result s l n logical)

-- the reader's page buffer too
pub record ReadHanded : Type 0 where
  pub handed : Handed
  pub buffer : List ℕ

abbrev pub read_handed : Handed → List ℕ → ReadHanded
read_handed h buffer = record { handed = h; buffer = buffer }

unfoldable pub reading_lent : Setting → Lent → ℕ → ℕ → ℕ → List ℕ → ReadHanded
reading_lent s l n logical page buffer =
    read_handed (answered l (read_page s l n logical page buffer).returned)
    (cond (rightly l) (read_page s l n logical page buffer).buffer buffer)
