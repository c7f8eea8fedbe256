-- The bench's requests made on the small chip, each with no mask bit, no fate word and no cut, and the figures of each.
use Rattle.std.specs.Prelude.{[], replicate}
use Rattle.geometry.specs.declared.Geometry.{Geometry}
use Rattle.chip_array.specs.Device.{Setting, setting}
use Rattle.state.specs.State.{free_blocks}
use Rattle.request.specs.Call.{Result}
use Rattle.format.specs.Format.{formatting}
use Rattle.read.specs.Reading.{reading_page}
use Rattle.write_changes.specs.Changes.{writing, erasing_logical}
use Rattle.demo_store.specs.declared.Store.{Store}
use Rattle.demo_store.specs.declared.Ended.{Ended}
use Rattle.demo_store.specs.Small.{chip_in}
use Rattle.bench_requests.specs.declared.Request.{Request}
use Rattle.bench_requests.specs.declared.Request.TheVariants.{Format, Write, Read, Erase}
use Rattle.bench_requests.specs.declared.Figures.{Figures}

-- a result, with the store that it leaves
abbrev pub ended_by : Geometry → Result → Ended
ended_by g r =
    record {
      answer = r.answer;
      sent = r.sent;
      store = record { geometry = g; state = r.state; interface = r.chip.interface; array = r.chip.array; register = r.chip.register; history = r.chip.history };
    }

abbrev pub plainly : Store → Setting
plainly s = setting s.geometry (replicate 192 0) []

-- how a request ends that is made on a store
unfoldable pub performed : Store → Request → Ended
performed s Format = ended_by s.geometry (formatting (plainly s) (chip_in s) 4294967295 s.state)
performed s (Write block page byte) =
    ended_by s.geometry (writing (plainly s) (chip_in s) 4294967295 s.state block page (replicate 32 byte))
performed s (Read block page) =
    ended_by s.geometry (reading_page (plainly s) (chip_in s) 4294967295 s.state block page (replicate 32 0)).returned
performed s (Erase block) = ended_by s.geometry (erasing_logical (plainly s) (chip_in s) 4294967295 s.state block)

-- answer, cycles sent, and the valid unmarked blocks that hold nothing current, of 4 with 2 logical ones
abbrev pub figures_of : Ended → Figures
figures_of e = record { answer = e.answer; sent = e.sent; free = free_blocks e.store.state 4 2 }
