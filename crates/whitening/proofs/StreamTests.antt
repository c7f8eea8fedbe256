-- Pages computed: sixteen bytes 00h whitened, which are the first bytes of the stream, for pages 0, 1, 2 and 63, and eight bytes FFh. Assumes nothing.
use mathlib.Core.List.{[], ◌∷◌}
use mathlib.Core.Path.{◌≡◌, refl}
use lib.ListN.{replicate}
use Rattle.whitening.specs.Stream.{shifted, stepped, bits_given, bytes_given}
use Rattle.whitening.specs.Whitened.{xored, whitened}

-- 00 02 00 0C 00 28 00 F0 02 20 0C C0 2A 80 FF 02
page_0 : whitened 0 (replicate 16 0) ≡ 0 ∷ 2 ∷ 0 ∷ 12 ∷ 0 ∷ 40 ∷ 0 ∷ 240 ∷ 2 ∷ 32 ∷ 12 ∷ 192 ∷ 42 ∷ 128 ∷ 255 ∷ 2 ∷ []
unfolding shifted stepped bits_given bytes_given xored
page_0 = refl

-- 00 04 00 18 00 50 01 E0 04 40 19 80 55 01 FE 04
page_1 : whitened 1 (replicate 16 0) ≡ 0 ∷ 4 ∷ 0 ∷ 24 ∷ 0 ∷ 80 ∷ 1 ∷ 224 ∷ 4 ∷ 64 ∷ 25 ∷ 128 ∷ 85 ∷ 1 ∷ 254 ∷ 4 ∷ []
unfolding shifted stepped bits_given bytes_given xored
page_1 = refl

-- 00 06 00 14 00 78 01 10 06 60 15 40 7F 81 01 06
page_2 : whitened 2 (replicate 16 0) ≡ 0 ∷ 6 ∷ 0 ∷ 20 ∷ 0 ∷ 120 ∷ 1 ∷ 16 ∷ 6 ∷ 96 ∷ 21 ∷ 64 ∷ 127 ∷ 129 ∷ 1 ∷ 6 ∷ []
unfolding shifted stepped bits_given bytes_given xored
page_2 = refl

-- 00 80 03 00 0A 00 3C 00 88 03 30 0A A0 3F C0 80
page_63 : whitened 63 (replicate 16 0) ≡ 0 ∷ 128 ∷ 3 ∷ 0 ∷ 10 ∷ 0 ∷ 60 ∷ 0 ∷ 136 ∷ 3 ∷ 48 ∷ 10 ∷ 160 ∷ 63 ∷ 192 ∷ 128 ∷ []
unfolding shifted stepped bits_given bytes_given xored
page_63 = refl

-- FF 7F FC FF F5 FF C3 FF
erased_63 : whitened 63 (replicate 8 255) ≡ 255 ∷ 127 ∷ 252 ∷ 255 ∷ 245 ∷ 255 ∷ 195 ∷ 255 ∷ []
unfolding shifted stepped bits_given bytes_given xored
erased_63 = refl
