-- The text worked by hand from 02. Assumes nothing.
use Rattle.std.specs.Prelude.{ℕ, ◌≡◌, refl, true, false, [], ◌∷◌, map}
use Rattle.exposition.specs.Values.{mantissa, scale, too_large, value_text}
use Rattle.exposition.specs.Faults.{is_name, is_key, is_utf8, good_labels, sound, fault, first_fault}
use Rattle.exposition.specs.Text.{escaped_all, series_text}
use Rattle.exposition.specs.Computing.{computing}
use Rattle.exposition.specs.Ascii.{ascii}

-- of the least subnormal, the greatest, the least normal, 1, minus 0.0625
mantissas : map mantissa (0x1 ∷ 0xf_ffff_ffff_ffff ∷ 0x10_0000_0000_0000 ∷ 0x3ff0_0000_0000_0000 ∷ 0xbfb0_0000_0000_0000 ∷ [])
    ≡ 1 ∷ 4503599627370495 ∷ 4503599627370496 ∷ 4503599627370496 ∷ 4503599627370496 ∷ []
unfolding computing
mantissas = refl

scales : map scale (0x1 ∷ 0xf_ffff_ffff_ffff ∷ 0x10_0000_0000_0000 ∷ 0x3ff0_0000_0000_0000 ∷ 0xbfb0_0000_0000_0000 ∷ [])
    ≡ 1074 ∷ 1074 ∷ 1074 ∷ 52 ∷ 56 ∷ []
unfolding computing
scales = refl

-- 02: 0.0625 prints 0.063 and minus 0.0625 prints -0.063. 0.1875 is a half too
halves : map value_text (0x3fb0_0000_0000_0000 ∷ 0xbfb0_0000_0000_0000 ∷ 0x3fc8_0000_0000_0000 ∷ [])
    ≡ ascii "0.063" ∷ ascii "-0.063" ∷ ascii "0.188" ∷ []
unfolding computing
halves = refl

-- 1, -2.5, 0.1, 1000.0004, 123456.7895, which is a little less than that
plain : map value_text (0x3ff0_0000_0000_0000 ∷ 0xc004_0000_0000_0000 ∷ 0x3fb9_9999_9999_999a ∷ 0x408f_4000_d1b7_1759
    ∷ 0x40fe_240c_a1ca_c083 ∷ [])
    ≡ ascii "1.000" ∷ ascii "-2.500" ∷ ascii "0.100" ∷ ascii "1000.000" ∷ ascii "123456.789" ∷ []
unfolding computing
plain = refl

-- 02: a printed zero has no sign. 0, -0, the least subnormal and its negative, -0.0004, the last below half a thousandth
-- and the first above, both negative
zeros : map value_text (0x0 ∷ 0x8000_0000_0000_0000 ∷ 0x1 ∷ 0x8000_0000_0000_0001 ∷ 0xbf3a_36e2_eb1c_432d
    ∷ 0xbf40_624d_d2f1_a9fb ∷ 0xbf40_624d_d2f1_a9fc ∷ [])
    ≡ ascii "0.000" ∷ ascii "0.000" ∷ ascii "0.000" ∷ ascii "0.000" ∷ ascii "0.000" ∷ ascii "0.000" ∷ ascii "-0.001" ∷ []
unfolding computing
zeros = refl

-- 0.0005, 1.0005 and 2.0015 lie off the half that they are written as: above, below, above. Their products with 1000 in
-- binary64 are exact halves.
off_the_half : map value_text (0x3f40_624d_d2f1_a9fc ∷ 0x3ff0_020c_49ba_5e35 ∷ 0x4000_0312_6e97_8d50 ∷ [])
    ≡ ascii "0.001" ∷ ascii "1.000" ∷ ascii "2.002" ∷ []
unfolding computing
off_the_half = refl

-- the last below 2 to the 40th, its negative, and 2 to the 40th less 1/8
large : map value_text (0x426f_ffff_ffff_ffff ∷ 0xc26f_ffff_ffff_ffff ∷ 0x426f_ffff_ffff_fc00 ∷ [])
    ≡ ascii "1099511627776.000" ∷ ascii "-1099511627776.000" ∷ ascii "1099511627775.875" ∷ []
unfolding computing
large = refl

-- the last below 2 to the 40th, 2 to the 40th and its negative, 2 to the 60th, the largest, the infinities, missing ones,
-- the least subnormal, 0
sizes : map too_large (0x426f_ffff_ffff_ffff ∷ 0x4270_0000_0000_0000 ∷ 0xc270_0000_0000_0000 ∷ 0x43b0_0000_0000_0000
    ∷ 0x7fef_ffff_ffff_ffff ∷ 0x7ff0_0000_0000_0000 ∷ 0xfff0_0000_0000_0000 ∷ 0x7ff8_0000_0000_0000 ∷ 0x7ff0_0000_0000_0001 ∷ 0x1 ∷ 0x0 ∷ [])
    ≡ false ∷ true ∷ true ∷ true ∷ true ∷ true ∷ true ∷ false ∷ false ∷ false ∷ false ∷ []
unfolding computing
sizes = refl

names : map is_name (ascii "" ∷ ascii "a" ∷ ascii ":a_9" ∷ ascii "_" ∷ ascii "9a" ∷ ascii "a-b" ∷ ascii "a:b" ∷ ascii "z{"
    ∷ ascii "@" ∷ (97 ∷ 0xc3 ∷ 0xa9 ∷ []) ∷ [])
    ≡ false ∷ true ∷ true ∷ true ∷ false ∷ false ∷ true ∷ false ∷ false ∷ false ∷ []
unfolding computing
names = refl

keys : map is_key (ascii "a" ∷ ascii "_9" ∷ ascii "Az_" ∷ ascii "" ∷ ascii ":a" ∷ ascii "a:b" ∷ ascii "9a" ∷ ascii "`" ∷ ascii "[" ∷ [])
    ≡ true ∷ true ∷ true ∷ false ∷ false ∷ false ∷ false ∷ false ∷ false ∷ []
unfolding computing
keys = refl

-- nothing, 7F, U+0080, U+07FF, U+0800, U+D7FF, U+E000, U+FFFF, U+10000, U+10FFFF, and a letter before and behind a sequence
utf8 : map is_utf8 ([] ∷ (0x7f ∷ []) ∷ (0xc2 ∷ 0x80 ∷ []) ∷ (0xdf ∷ 0xbf ∷ []) ∷ (0xe0 ∷ 0xa0 ∷ 0x80 ∷ [])
    ∷ (0xed ∷ 0x9f ∷ 0xbf ∷ []) ∷ (0xee ∷ 0x80 ∷ 0x80 ∷ []) ∷ (0xef ∷ 0xbf ∷ 0xbf ∷ []) ∷ (0xf0 ∷ 0x90 ∷ 0x80 ∷ 0x80 ∷ [])
    ∷ (0xf4 ∷ 0x8f ∷ 0xbf ∷ 0xbf ∷ []) ∷ (97 ∷ 0xc3 ∷ 0xa9 ∷ 98 ∷ []) ∷ [])
    ≡ true ∷ true ∷ true ∷ true ∷ true ∷ true ∷ true ∷ true ∷ true ∷ true ∷ true ∷ []
unfolding computing
utf8 = refl

-- 80 alone, overlong forms behind C1, E0 and F0, a surrogate, above 10FFFF, F5, sequences of two, three and four bytes cut
-- short by one, a byte that continues none
not_utf8 : map is_utf8 ((0x80 ∷ []) ∷ (0xc1 ∷ 0xbf ∷ []) ∷ (0xe0 ∷ 0x9f ∷ 0xbf ∷ []) ∷ (0xf0 ∷ 0x8f ∷ 0xbf ∷ 0xbf ∷ [])
    ∷ (0xed ∷ 0xa0 ∷ 0x80 ∷ []) ∷ (0xf4 ∷ 0x90 ∷ 0x80 ∷ 0x80 ∷ []) ∷ (0xf5 ∷ 0x80 ∷ 0x80 ∷ 0x80 ∷ []) ∷ (0xc2 ∷ [])
    ∷ (0xe1 ∷ 0x80 ∷ []) ∷ (0xf1 ∷ 0x80 ∷ 0x80 ∷ []) ∷ (0xc2 ∷ 65 ∷ []) ∷ [])
    ≡ false ∷ false ∷ false ∷ false ∷ false ∷ false ∷ false ∷ false ∷ false ∷ false ∷ false ∷ []
unfolding computing
not_utf8 = refl

-- a:b{k="x"}, a colon in a key, a second value that is no UTF-8, no tags, no name
labels : map good_labels (record { name = ascii "a:b"; tags = record { key = ascii "k"; value = ascii "x" } ∷ [] }
    ∷ record { name = ascii "a"; tags = record { key = ascii "k:l"; value = ascii "x" } ∷ [] }
    ∷ record { name = ascii "a"; tags = record { key = ascii "k"; value = ascii "x" } ∷ record { key = ascii "l"; value = 0xc2 ∷ [] } ∷ [] }
    ∷ record { name = ascii "a"; tags = [] } ∷ record { name = []; tags = [] } ∷ [])
    ≡ true ∷ false ∷ false ∷ true ∷ false ∷ []
unfolding computing
labels = refl

-- backslash, double quote and line feed; a tab stands as it is
escapes : escaped_all (ascii "a\\b\"c\nd\te") ≡ ascii "a\\\\b\\\"c\\nd\te"
unfolding computing
escapes = refl

-- two series of three points, an hour apart: a gap in each, a tag value that is escaped and one that is empty
text : series_text (record { points = 3; start = 1000; step = 3600000 })
    (record {
      labels = record {
        name = ascii "fed";
        tags = record { key = ascii "press"; value = ascii "A\"1" } ∷ record { key = ascii "stock"; value = [] } ∷ [];
      };
      row = 0x4024_0000_0000_0000 ∷ 0x7ff8_0000_0000_0000 ∷ 0xbfb0_0000_0000_0000 ∷ [];
    } ∷
    record {
      labels = record { name = ascii "up"; tags = [] };
      row = 0x7ff8_0000_0000_0001 ∷ 0x3ff0_0000_0000_0000 ∷ 0x7ff8_0000_0000_0000 ∷ [];
    } ∷ [])
    ≡ ascii "fed{press=\"A\\\"1\",stock=\"\"} 10.000 1000\nfed{press=\"A\\\"1\",stock=\"\"} -0.063 7201000\nup 1.000 3601000\n"
unfolding computing
text = refl

-- 02: the first series at fault is named, 15 before 16 within it: 16 at place 1 before 15 at place 2; both at one place; 15
-- without a present reading
faults : map (first_fault 0)
    ((record { labels = record { name = ascii "a"; tags = [] }; row = 0x7ff8_0000_0000_0000 ∷ [] } ∷
    record { labels = record { name = ascii "b"; tags = [] }; row = 0x4270_0000_0000_0000 ∷ [] } ∷
    record { labels = record { name = []; tags = [] }; row = 0x0 ∷ [] } ∷ []) ∷
    (record { labels = record { name = ascii "9"; tags = [] }; row = 0x4270_0000_0000_0000 ∷ [] } ∷ []) ∷
    (record { labels = record { name = []; tags = [] }; row = 0x7ff8_0000_0000_0000 ∷ [] } ∷ []) ∷
    (record { labels = record { name = ascii "a"; tags = [] }; row = 0x0 ∷ [] } ∷ []) ∷ [])
    ≡ fault 16 1 ∷ fault 15 0 ∷ fault 15 0 ∷ sound ∷ []
unfolding computing
faults = refl
