-- The test load on the small chip: how each of its requests ends, made one by one.
use Rattle.std.specs.Prelude.{ℕ, zero, suc, cond, List, [], ◌∷◌, ◌≡◌, eqb}
use Rattle.demo_store.specs.declared.Store.{Store}
use Rattle.demo_store.specs.declared.Ended.{Ended}
use Rattle.demo_store.specs.Small.{new_store}
use Rattle.bench_requests.specs.declared.Request as bench
use Rattle.bench_requests.specs.declared.Request.TheVariants as made
use Rattle.bench_requests.specs.declared.Figures.{Figures}
use Rattle.bench_requests.specs.Requests.{performed, figures_of}
use Rattle.test_load.specs.declared.Request.{Request}
use Rattle.test_load.specs.declared.Request.TheVariants.{Erase, Read, Write}
use Rattle.test_load.specs.Requests.{requests_from}

-- a request of the load as the bench makes it
abbrev pub asked : Request → bench.Request
asked (Erase block) = made.Erase block
asked (Read block page) = made.Read block page
asked (Write block page byte) = made.Write block page byte

-- how requests end that are made one by one, from a store on
unfoldable pub ends_from : Store → List Request → List Ended
ends_from s [] = []
ends_from s (r ∷ rs) = performed s (asked r) ∷ ends_from (performed s (asked r)).store rs

-- a new chip, formatted; seed 0 gets 2
unfoldable pub begun : ℕ → Ended
begun seed = cond (eqb seed 0) (record { answer = 2; sent = 0; store = new_store 2 }) (performed (new_store 2) made.Format)

-- the requests after the formatting: none from seed 0
abbrev pub request_count : ℕ → ℕ → ℕ
request_count seed count = cond (eqb seed 0) 0 count

abbrev pub following : ℕ → ℕ → List Ended
following seed count = ends_from (begun seed).store (requests_from (request_count seed count) seed 2 4)

-- the whole load
abbrev pub load : ℕ → ℕ → List Ended
load seed count = begun seed ∷ following seed count

-- a line printed at a place has the figures of the request there
unfoldable pub HasLine : List Ended → ℕ → Figures → Type 0
HasLine [] place figures = ⊥
HasLine (e ∷ es) zero figures = figures ≡ figures_of e
HasLine (e ∷ es) (suc place) figures = HasLine es place figures

-- how the last of them ends
unfoldable pub last_of : Ended → List Ended → Ended
last_of e [] = e
last_of e (x ∷ xs) = last_of x xs

abbrev pub load_end : ℕ → ℕ → Ended
load_end seed count = last_of (begun seed) (following seed count)
