-- How each request ends, told by its result. Assumes nothing.
use Prim.Native.Nat.{ℕ}
use mathlib.Core.List.{List}
use mathlib.Core.Path.{◌≡◌, ap, ap₂}
use lib.ListN.{replicate}
use Rattle.geometry.specs.declared.Geometry.{Geometry}
use Rattle.request.specs.Call.{Result}
use Rattle.format.specs.Format.{formatting}
use Rattle.read_page.specs.Fetching.{ReadResult, read_result}
use Rattle.read.specs.Reading.{reading_page}
use Rattle.write_changes.specs.Changes.{writing, erasing_logical}
use Rattle.demo_store.specs.declared.Store.{Store}
use Rattle.demo_store.specs.declared.Ended.{Ended}
use Rattle.demo_store.specs.Small.{chip_in, ended_as}
use Rattle.bench_requests.specs.declared.Request.TheVariants.{Format, Write, Read, Erase}
use Rattle.bench_requests.specs.Requests.{ended_by, plainly, performed}

ended_is : (e : Ended) (g : Geometry) (r : Result) → ended_as e ≡ r → e.store.geometry ≡ g → e ≡ ended_by g r
ended_is e g r p q = ap₂ (λ (h : Geometry) (x : Result). ended_by h x) q p

module _ (e : Ended) (s : Store) (same : e.store.geometry ≡ s.geometry) where
  pub format_is : ended_as e ≡ formatting (plainly s) (chip_in s) 4294967295 s.state → e ≡ performed s Format
  unfolding performed
  format_is p = ended_is e s.geometry _ p same

  pub write_is : (block page byte : ℕ) → ended_as e ≡ writing (plainly s) (chip_in s) 4294967295 s.state block page (replicate 32 byte) → e ≡ performed s (Write block page byte)
  unfolding performed
  write_is block page byte p = ended_is e s.geometry _ p same

  pub read_is : (block page : ℕ) (bytes : List ℕ) → read_result (ended_as e) bytes ≡ reading_page (plainly s) (chip_in s) 4294967295 s.state block page (replicate 32 0) → e ≡ performed s (Read block page)
  unfolding performed
  read_is block page bytes p = ended_is e s.geometry _ (ap (λ (x : ReadResult). x.returned) p) same

  pub erase_is : (block : ℕ) → ended_as e ≡ erasing_logical (plainly s) (chip_in s) 4294967295 s.state block → e ≡ performed s (Erase block)
  unfolding performed
  erase_is block p = ended_is e s.geometry _ p same
