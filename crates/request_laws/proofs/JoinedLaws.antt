-- A read after a mount or a formatting that was answered 0. Assumes nothing.
use Prim.Native.Nat.{ℕ, ◌≤◌}
use mathlib.Core.Bool.{true}
use mathlib.Core.List.{List}
use mathlib.Core.Path.{◌≡◌, refl, sym, ap, subst, ◌∙◌}
use native.Mathlib.Omega.{arith}
use borrow.Table.Steps.{cases}
use borrow.Author.Tests.{eq-eqb}
use lib.ListN.{length, replicate}
use Rattle.geometry.specs.declared.Geometry.{Geometry}
use Rattle.geometry.specs.Sizes.{block_size}
use Rattle.bools.proofs.BoolLaws.{both}
use Rattle.cells.specs.Bytes.{Bytes}
use Rattle.chip_array.specs.Device.{Device, Setting, setting, fitting}
use Rattle.copies.specs.Current.{current_table, mount_answer, reading}
use Rattle.copies.specs.Pick.{at}
use Rattle.state.specs.State.{mounted}
use Rattle.state.specs.declared.State.{State}
use Rattle.scan_found.specs.Contents.{map_in, kinds_of}
use Rattle.request.specs.Call.{Result, sized, sized_for}
use Rattle.scan_summary.specs.declared.Depth.{Depth}
use Rattle.scan_summary.specs.declared.Depth.TheVariants.{Full}
use Rattle.mount.specs.Mount.{mounted_state, state_by, state_after, mounting}
use Rattle.mount.proofs.MountLaws.{state_by_lem}
use Rattle.mount_laws.specs.Mounting.{Mounting}
use Rattle.mount_laws.proofs.StateLaws.{right_table_fact}
use Rattle.mount_laws.proofs.MountingLaws.{mount_ends, mount-refused}
use Rattle.format.specs.Format.{formatting}
use Rattle.format_laws.proofs.FormattingLaws.{format_acknowledged}
use Rattle.read.specs.Reading.{reading_page}
use Rattle.request_laws.specs.Reads.{ReadsAs, Readable, MountRead}
use Rattle.request_laws.proofs.PageReadLaws.{reads_as}

-- a chip keeps its sizes under another mask of the right length
sized-again : (s : Setting) (d : Device) (mask fates : List ℕ) → sized_for s d ≡ true → length mask ≡ block_size s.geometry → sized_for (setting s.geometry mask fates) d ≡ true
unfolding sized
sized-again s d mask fates t e =
    let fits = (both (fitting s.geometry (length d.array) (length d.register) (length d.history)) _ t).0 in
    rw (fits, eq-eqb (length mask) (block_size s.geometry) e)

-- reads from a mounted state whose map and kinds are those of the array's current copies
pub reads-after : (s : Setting) (r : Result) → mounted r.state s.geometry.blocks s.geometry.logical ≡ true → sized_for s r.chip ≡ true → r.chip.interface.phase ≤ 2
    → r.state.map ≡ map_in s.geometry r.chip.array r.state.table → r.state.kinds ≡ kinds_of s.geometry r.chip.array r.state.table → Readable s.geometry r (reading s.geometry r.chip.array r.state.table)
reads-after s r m t ready map_is kinds_is mask fates n logical page buffer mask_long l p long =
    reads_as (setting s.geometry mask fates) r.chip n r.state logical page buffer
    (record { sizes_fit = sized-again s r.chip mask fates t mask_long; is_mounted = m; logical_below = l; page_below = p; buffer_long = long })
    ready r.state.table map_is kinds_is

-- the map and the kinds of a mounted state are those of the array
map_of_state : (depth : Depth) (g : Geometry) (array : List ℕ) (st : State) → st ≡ state_by depth g array → st.map ≡ map_in g array st.table
map_of_state depth g array st e = subst (λ (x : State). x.map ≡ map_in g array x.table) (state_by_lem depth g array ∙ sym e) refl

kinds_of_state : (depth : Depth) (g : Geometry) (array : List ℕ) (st : State) → st ≡ state_by depth g array → st.kinds ≡ kinds_of g array st.table
kinds_of_state depth g array st e = subst (λ (x : State). x.kinds ≡ kinds_of g array x.table) (state_by_lem depth g array ∙ sym e) refl

table_of_state : (depth : Depth) (g : Geometry) (array : List ℕ) (st : State) → st ≡ state_by depth g array → mount_answer g array ≡ 0 → current_table g array ≡ at st.table
table_of_state depth g array st e z = (right_table_fact g array z).is_current ∙ ap at (ap (λ (x : State). x.table) (state_by_lem depth g array ∙ sym e))

module _ (depth : Depth) (s : Setting) (d : Device) (n : ℕ) (state : State) (z : (mounting depth s d n state).answer ≡ 0) where
  abbrev r : Result
  r = mounting depth s d n state

  sizes_fit : sized_for s d ≡ true
  sizes_fit = cases (sized_for s d) (λ t. t) (λ f. absurd (omega (arith, z, mount-refused depth s d n state f)))

  m : Mounting depth s d n r
  m = mount_ends depth s d n sizes_fit state

  not_ten : r.answer ≡ 10 → ⊥
  not_ten e = omega (arith, e, z)

  not_eleven : r.answer ≡ 11 → ⊥
  not_eleven e = omega (arith, e, z)

  answer_zero : mount_answer s.geometry d.array ≡ 0
  answer_zero = sym (m.answer_is not_ten not_eleven) ∙ z

  state_is : r.state ≡ state_by depth s.geometry d.array
  unfolding state_after
  state_is = m.state_is not_ten not_eleven ∙ rw (eq-eqb (mount_answer s.geometry d.array) 0 answer_zero)

  -- from the state and the chip of every mount answered 0, reads give what the array's definitions say
  pub mount_then_read : MountRead s.geometry d.array r
  mount_then_read =
      record {
        table_is = table_of_state depth s.geometry d.array r.state state_is answer_zero;
        reads = subst (λ (a : List ℕ). Readable s.geometry r (reading s.geometry a r.state.table)) m.same_array
            (reads-after s r (m.counts_mounted z) m.sizes_kept (m.still_ready z)
            (map_of_state depth s.geometry d.array r.state state_is ∙ ap (λ (a : List ℕ). map_in s.geometry a r.state.table) (sym m.same_array))
            (kinds_of_state depth s.geometry d.array r.state state_is ∙ ap (λ (a : List ℕ). kinds_of s.geometry a r.state.table) (sym m.same_array)));
      }

full_state : (g : Geometry) (array : List ℕ) → mounted_state g array ≡ state_by Full g array
unfolding state_by
full_state g array = refl

-- after every acknowledged formatting every logical page reads FFh
pub format_then_read : (s : Setting) (d : Device) (n : ℕ) (state : State) → Bytes s.mask → Bytes d.array → (formatting s d n state).answer ≡ 0
    → Readable s.geometry (formatting s d n state) (λ logical page. replicate s.geometry.main 255)
format_then_read s d n state mask_bytes array_bytes z mask fates k logical page buffer mask_long l p long =
    let r = formatting s d n state in
    let a = format_acknowledged s d n state mask_bytes array_bytes z in
    let f = a.formatted in
    subst (λ (bytes : List ℕ). ReadsAs (setting s.geometry mask fates) r.chip k r.state bytes (reading_page (setting s.geometry mask fates) r.chip k r.state logical page buffer)) (f.reads_blank logical page)
    (reads-after s r a.counts_mounted a.still_sized a.still_ready (map_of_state Full s.geometry r.chip.array r.state (f.state_is ∙ full_state s.geometry r.chip.array)) (kinds_of_state Full s.geometry r.chip.array r.state (f.state_is ∙ full_state s.geometry r.chip.array)) mask fates k logical page buffer mask_long l p long)
