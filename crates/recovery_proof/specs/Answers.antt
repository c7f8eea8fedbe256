-- How a further call is answered after a list.
use Rattle.std.specs.Prelude.{ℕ, ◌<◌, List, ◌≡◌, length}
use Rattle.geometry.specs.declared.Geometry.{Geometry}
use Rattle.geometry.specs.Sizes.{block_size}
use Rattle.cells.specs.Bytes.{Bytes}
use Rattle.scan_summary.specs.declared.Depth.{Depth}
use Rattle.request.specs.Call.{result_of}
use Rattle.mount_laws.specs.Mounting.{mount_most}
use Rattle.damage.specs.Run.{Slow}
use Rattle.request_laws.specs.Reads.{ReadAnswer}
use Rattle.open_write.specs.Requests.{OpenResult}
use Rattle.recovery.specs.Calls.{Lent, to_write, to_erase, to_open, to_advance, Callable, Store, mount_on, read_of, run_of}

-- a mount, full or quick, whose mask is as long as a block is not answered 1
abbrev pub RightlyCalled : Geometry → Store → Type 0
RightlyCalled g y = (depth : Depth) (a : Lent) → length a.mask ≡ block_size g → (mount_on depth g a y).answer ≡ 1 → ⊥

-- with no slow fate word and an allowance above the most that a mount sends it is answered 0
abbrev pub ComesBack : Geometry → Store → Type 0
ComesBack g y =
    (depth : Depth) (a : Lent) → length a.mask ≡ block_size g → (Slow a.fates → ⊥) → mount_most depth g < a.allowed → (mount_on depth g a y).answer ≡ 0

-- a read has no other answer than on a chip that is ready, so never 255
abbrev pub ReadsAnswered : Geometry → Store → Type 0
ReadsAnswered g y =
    (a : Lent) (logical page : ℕ) (buffer : List ℕ) → ReadAnswer (read_of g a logical page buffer y).returned.answer

-- the answers of a write, an erase, an opening or an advance, refusals included
pub data AnyChangeAnswer : ℕ → Type 0 where
  is_done : AnyChangeAnswer 0
  is_geometry : AnyChangeAnswer 1
  is_address : AnyChangeAnswer 2
  is_length : AnyChangeAnswer 3
  is_unmounted : AnyChangeAnswer 7
  is_worn : AnyChangeAnswer 8
  is_spent : AnyChangeAnswer 9
  is_silent_fact : AnyChangeAnswer 10
  is_cut : AnyChangeAnswer 11
  is_protected_fact : AnyChangeAnswer 13
  is_barred : AnyChangeAnswer 15

-- no other comes; it is silent only where a fate word is slow, and cut only where all cycles allowed were sent
pub record ChangeAnswered (a : Lent) (r : OpenResult) : Type 0 where
  pub answers : AnyChangeAnswer r.answer
  pub silent_by : r.answer ≡ 10 → Slow a.fates
  pub cut_at : r.answer ≡ 11 → r.sent ≡ a.allowed

abbrev pub WritesAnswered : Geometry → Store → Type 0
WritesAnswered g y =
    (a : Lent) (logical page : ℕ) (bytes : List ℕ) → Bytes a.mask → Bytes bytes → ChangeAnswered a (result_of (run_of g (to_write a logical page bytes) y))

abbrev pub ErasesAnswered : Geometry → Store → Type 0
ErasesAnswered g y = (a : Lent) (logical : ℕ) → Bytes a.mask → ChangeAnswered a (result_of (run_of g (to_erase a logical) y))

abbrev pub OpensAnswered : Geometry → Store → Type 0
OpensAnswered g y =
    (a : Lent) (logical page : ℕ) (bytes : List ℕ) → Bytes a.mask → Bytes bytes → ChangeAnswered a (result_of (run_of g (to_open a logical page bytes) y))

abbrev pub AdvancesAnswered : Geometry → Store → Type 0
AdvancesAnswered g y =
    (a : Lent) (most : ℕ) → Callable (to_advance a most) y → ChangeAnswered a (result_of (run_of g (to_advance a most) y))
