-- Worked examples: numbers of hundredths and their codes, codes and what they say, and each refusal by its number, by computation.
use Rattle.octets.proofs.Kit.{ℕ, ◌≡◌, refl, true, false, List, [], ◌∷◌, map, pos, negsuc, nan, inf, fin}
use Rattle.octets.specs.Bytes.{num_at}
use Rattle.points.specs.{Nine.res, Code.{exponent_from, code_of}, Point.{read_point, read_outcome, write_outcome}}
use Rattle.points.specs.declared.Datapoint.TheVariants.{Switch, Byte, Hundredths, Float as Single}

-- WRITTEN: small numbers, ties toward zero, the smaller exponent of two, both ends of the range
pub nine_written :
    map code_of
    (pos 0 ∷ pos 1 ∷ negsuc 0 ∷ pos 2047 ∷ pos 2048 ∷ pos 2049 ∷ negsuc 2047 ∷ negsuc 2048 ∷ negsuc 2050 ∷
    negsuc 2999 ∷ pos 4095 ∷ pos 8191 ∷ negsuc 999999 ∷ pos 67026944 ∷ pos 67043328 ∷ negsuc 67108863 ∷ [])
    ≡ 0x0000 ∷ 0x0001 ∷ 0x87FF ∷ 0x07FF ∷ 0x0C00 ∷ 0x0C00 ∷ 0x8000 ∷ 0x8000 ∷ 0x8BFF ∷
    0x8A24 ∷ 0x0FFF ∷ 0x1C00 ∷ 0xC85F ∷ 0x7FFD ∷ 0x7FFE ∷ 0xF800 ∷ []
unfolding code_of exponent_from
nine_written = refl

-- READ: the sign is bit 15
pub nine_read :
    map res (0x0C1A ∷ 0x7800 ∷ 0x87FF ∷ 0xFFFF ∷ 0xF800 ∷ 0x7FFE ∷ [])
    ≡ pos 2100 ∷ pos 0 ∷ negsuc 0 ∷ negsuc 32767 ∷ negsuc 67108863 ∷ pos 67043328 ∷ []
unfolding res
nine_read = refl

-- REFUSED ON READING, of a type and bytes: 25, then 20, then 21, 22 or 24 by the type
pub refused :
    map (λ (x : ℕ × List ℕ). read_outcome (read_point x.0 x.1))
    ((2, 0x00 ∷ []) ∷ (1, 0x00 ∷ 0x02 ∷ []) ∷ (1, 0x02 ∷ []) ∷ (1, 0x01 ∷ []) ∷ (5, []) ∷ (5, 0xFF ∷ []) ∷
    (9, 0x7F ∷ []) ∷ (9, 0x7F ∷ 0xFF ∷ []) ∷ (9, 0xFF ∷ 0xFF ∷ []) ∷
    (14, 0x7F ∷ 0x80 ∷ 0x00 ∷ []) ∷ (14, 0x7F ∷ 0x80 ∷ 0x00 ∷ 0x00 ∷ []) ∷ (14, 0xFF ∷ 0xC0 ∷ 0x00 ∷ 0x00 ∷ []) ∷ (14, 0x7F ∷ 0x7F ∷ 0xFF ∷ 0xFF ∷ []) ∷ [])
    ≡ 25 ∷ 20 ∷ 21 ∷ 0 ∷ 20 ∷ 0 ∷ 20 ∷ 22 ∷ 0 ∷ 20 ∷ 24 ∷ 24 ∷ 0 ∷ []
unfolding read_point num_at
refused = refl

-- AND ON WRITING: 20, then 23 or 24
pub unwritten :
    write_outcome (Hundredths (pos 67043329)) (0 ∷ []) ∷
    write_outcome (Hundredths (pos 67043329)) (0 ∷ 0 ∷ []) ∷
    write_outcome (Hundredths (negsuc 67108864)) (0 ∷ 0 ∷ []) ∷
    write_outcome (Hundredths (negsuc 67108863)) (0 ∷ 0 ∷ []) ∷
    write_outcome (Single nan) (0 ∷ 0 ∷ []) ∷
    write_outcome (Single nan) (0 ∷ 0 ∷ 0 ∷ 0 ∷ []) ∷
    write_outcome (Single (inf false)) (0 ∷ 0 ∷ 0 ∷ 0 ∷ []) ∷
    write_outcome (Single (fin false 1 (pos 0))) (0 ∷ 0 ∷ 0 ∷ 0 ∷ []) ∷
    write_outcome (Switch true) (0 ∷ 0 ∷ []) ∷
    write_outcome (Byte 7) (0 ∷ []) ∷
    []
    ≡ 20 ∷ 23 ∷ 23 ∷ 0 ∷ 20 ∷ 24 ∷ 24 ∷ 0 ∷ 20 ∷ 0 ∷ []
unwritten = refl
