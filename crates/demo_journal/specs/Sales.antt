-- What each line of sales does on the small chip: an append and a request for the takings, made one by one.
use Rattle.std.specs.Prelude.{List, [], ◌∷◌, ◌≡◌, Option, Some, None}
use Rattle.journal.specs.declared.Sale.{Sale}
use Rattle.journal_requests.specs.Requests.{appending, telling_takings}
use Rattle.demo_store.specs.declared.Store.{Store}
use Rattle.demo_store.specs.Small.{chip_in, new_store}
use Rattle.bench_requests.specs.declared.Request.TheVariants.{Format}
use Rattle.bench_requests.specs.Requests.{ended_by, plainly, performed}
use Rattle.demo_journal.specs.declared.sales.Appended.{Appended}
use Rattle.demo_journal.specs.declared.sales.Told.{Told}
use Rattle.demo_journal.specs.declared.sales.Served.{Served}

-- how an append ends that is made on a store
unfoldable pub appended_on : Store → Sale → Appended
appended_on s r =
    record {
      ended = ended_by s.geometry (appending (plainly s) (chip_in s) 4294967295 s.state r).returned;
      number = (appending (plainly s) (chip_in s) 4294967295 s.state r).number;
    }

-- how a request for the takings ends
unfoldable pub told_on : Store → Told
told_on s =
    record {
      ended = ended_by s.geometry (telling_takings (plainly s) (chip_in s) 4294967295 s.state).returned;
      takings = (telling_takings (plainly s) (chip_in s) 4294967295 s.state).takings;
    }

-- what a line shows and leaves whose append ended so, and whose takings were told so after it
abbrev pub served_by : Appended → Told → Served
served_by a t =
    record {
      figures = record { answer = a.ended.answer; number = a.number; takings = t.takings };
      store = t.ended.store;
    }

-- the takings are told of the store that the append left
abbrev pub entered_on : Store → Sale → Served
entered_on s r = served_by (appended_on s r) (told_on (appended_on s r).ended.store)

-- a malformed line gets 2, and no request is made
unfoldable pub served : Store → Option Sale → Served
served s (Some r) = entered_on s r
served s None = record { figures = record { answer = 2; number = 0; takings = 0 }; store = s }

-- the store after lines, the last one first, from a new chip that was formatted
unfoldable pub store_after : List (Option Sale) → Store
store_after [] = (performed (new_store 2) Format).store
store_after (e ∷ es) = (served (store_after es) e).store

-- a store that the program can come to
pub record Reached (s : Store) : Type 0 where
  pub entries : List (Option Sale)
  pub comes : s ≡ store_after entries
