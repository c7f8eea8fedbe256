-- What a copy holds, computed on the small chip: 32 main and 16 spare bytes, 4 pages, 4 blocks.
use Prim.Native.Nat.{ℕ}
use mathlib.Core.List.{List, [], ◌∷◌, ◌++◌}
use mathlib.Core.Path.{◌≡◌, refl}
use lib.ListN.{take, replicate}
use Rattle.geometry.specs.declared.Geometry.{Geometry}
use Rattle.whitening.specs.Stream.{shifted, stepped, bits_given, bytes_given}
use Rattle.whitening.specs.Whitened.{xored}
use Rattle.pages.specs.Layout.{table_kind, is_white_kind}
use Rattle.copies.specs.Blocks.{formed}
use Rattle.fill.specs.Fill.{Source, given, kept, main_of, is_given, data_source}

abbrev small : Geometry
small = record { main = 32; spare = 16; pages = 4; blocks = 4; logical = 2 }

-- page 1 of a logical block is written whose old copy is in block 3, of kind 64h
abbrev write : ℕ → Source
write = data_source small 3 100 1 1 (replicate 32 165)

write_gives : write 1 ≡ given (replicate 32 165)
unfolding data_source is_given
write_gives = refl

write_keeps : write 2 ≡ kept 3 100
unfolding data_source is_given
write_keeps = refl

-- page 1 of a logical block that has no copy
first-write_fills : data_source small 65535 0 1 1 (replicate 32 165) 0 ≡ given (replicate 32 255)
unfolding data_source is_given
first-write_fills = refl

-- an erase: no page is given and none is kept
erase_fills : data_source small 65535 0 0 0 [] 3 ≡ given (replicate 32 255)
unfolding data_source is_given
erase_fills = refl

-- pages 1 and 2 are given, their bytes one after the other
two_given : data_source small 3 100 1 2 (replicate 32 165 ++ replicate 32 90) 2 ≡ given (replicate 32 90)
unfolding data_source is_given
two_given = refl

two_keep : data_source small 3 100 1 2 (replicate 32 165 ++ replicate 32 90) 3 ≡ kept 3 100
unfolding data_source is_given
two_keep = refl

-- page 1 of block 1 stores these 32 main bytes
abbrev array : List ℕ → List ℕ
array stored = replicate 240 1 ++ (stored ++ replicate 496 2)

-- A5h, and as page 1 stores it whitened
abbrev plain : List ℕ
plain = replicate 32 165

abbrev white : List ℕ
white =
    165 ∷ 161 ∷ 165 ∷ 189 ∷ 165 ∷ 245 ∷ 164 ∷ 69 ∷ 161 ∷ 229 ∷ 188 ∷ 37 ∷ 240 ∷ 164 ∷ 91 ∷ 161 ∷ []

-- main bytes of page 1 as a copy of kind 6Ch stores them, kept from a copy of a kind in block 1
abbrev kept_from : ℕ → List ℕ → List ℕ
kept_from form stored = formed 108 1 (main_of small (array stored) 1 (kept 1 form))

kept_narrow : take 16 (kept_from 68 plain) ≡ white
unfolding main_of formed is_white_kind xored bytes_given bits_given stepped shifted
kept_narrow = refl

kept_wide : take 16 (kept_from 100 plain) ≡ white
unfolding main_of formed is_white_kind xored bytes_given bits_given stepped shifted
kept_wide = refl

-- whitened bytes go over as they are
kept-white : kept_from 108 plain ≡ plain
unfolding main_of formed is_white_kind xored bytes_given bits_given stepped shifted
kept-white = refl

-- FFh of an erase, page 0 under kind 6Ch: the complement of the stream
erase_whitened : take 8 (formed 108 0 (main_of small [] 0 (data_source small 65535 0 0 0 [] 0))) ≡ 255 ∷ 253 ∷ 255 ∷ 243 ∷ 255 ∷ 215 ∷ 255 ∷ 15 ∷ []
unfolding data_source is_given main_of formed is_white_kind xored bytes_given bits_given stepped shifted
erase_whitened = refl

-- a table's pages are stored as they are
table_plain : (n : ℕ) (main : List ℕ) → formed table_kind n main ≡ main
unfolding formed is_white_kind
table_plain n main = refl
