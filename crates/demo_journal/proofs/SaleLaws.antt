-- How the requests of a line end, told by their results, and which stores lines lead to. Assumes nothing.
use Prim.Native.Nat.{ℕ}
use mathlib.Core.List.{[], ◌∷◌}
use mathlib.Core.Path.{◌≡◌, ap, ap₂, ◌∙◌}
use Rattle.geometry.specs.declared.Geometry.{Geometry}
use Rattle.request.specs.Call.{Result}
use Rattle.journal.specs.declared.Sale.{Sale}
use Rattle.journal_requests.specs.Requests as journal
use Rattle.demo_store.specs.declared.Store.{Store}
use Rattle.demo_store.specs.declared.Ended.{Ended}
use Rattle.demo_store.specs.Small.{chip_in, ended_as, new_store}
use Rattle.bench_requests.specs.declared.Request.TheVariants.{Format}
use Rattle.bench_requests.specs.Requests.{ended_by, plainly, performed}
use Rattle.std.proofs.Common.{Option}
use Rattle.demo_journal.specs.declared.sales.Appended.{Appended}
use Rattle.demo_journal.specs.declared.sales.Told.{Told}
use Rattle.demo_journal.specs.declared.sales.Served.{Served}
use Rattle.demo_journal.specs.Sales.{appended_on, told_on, served_by, entered_on, served, store_after, Reached}

abbrev pub appended_by : Geometry → journal.Appended → Appended
appended_by g a = record { ended = ended_by g a.returned; number = a.number }

abbrev pub told_by : Geometry → journal.TakingsResult → Told
told_by g t = record { ended = ended_by g t.returned; takings = t.takings }

-- an append that returned x, put together as e
pub append_is : (e : Ended) (number : ℕ) (x : Result) (s : Store) (r : Sale) → ended_as e ≡ x → e.store.geometry ≡ s.geometry
    → journal.appended x number ≡ journal.appending (plainly s) (chip_in s) 4294967295 s.state r → appended_by e.store.geometry (journal.appended (ended_as e) number) ≡ appended_on s r
unfolding appended_on
append_is e number x s r p same a = ap₂ appended_by same (ap (λ (y : Result). journal.appended y number) p ∙ a)

-- a request for the takings likewise
pub told_is : (e : Ended) (takings : ℕ) (x : Result) (s : Store) → ended_as e ≡ x → e.store.geometry ≡ s.geometry
    → journal.takings_result x takings ≡ journal.telling_takings (plainly s) (chip_in s) 4294967295 s.state → told_by e.store.geometry (journal.takings_result (ended_as e) takings) ≡ told_on s
unfolding told_on
told_is e takings x s p same t = ap₂ told_by same (ap (λ (y : Result). journal.takings_result y takings) p ∙ t)

-- one after the other
pub enter_is : (a : Appended) (t : Told) (s : Store) (r : Sale) → a ≡ appended_on s r → t ≡ told_on a.ended.store → served_by a t ≡ entered_on s r
enter_is a t s r p q = ap₂ served_by p (q ∙ ap (λ (x : Appended). told_on x.ended.store) p)

-- the formatted chip
pub reached_first : (e : Ended) → e ≡ performed (new_store 2) Format → Reached e.store
unfolding store_after
reached_first e p = record { entries = []; comes = ap (λ (x : Ended). x.store) p }

-- one line more
pub reached_next : (s : Store) (entry : Option Sale) (d : Served) → Reached s → d ≡ served s entry → Reached d.store
unfolding store_after
reached_next s entry d h p =
    record {
      entries = entry ∷ h.entries;
      comes = ap (λ (x : Served). x.store) p ∙ ap (λ (x : Store). (served x entry).store) h.comes;
    }
