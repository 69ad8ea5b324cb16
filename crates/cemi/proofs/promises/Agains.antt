-- WRITTEN AGAIN FROM WHAT WAS READ, A FRAME HAS THE SAME BYTES. Assumes nothing.
use Rattle.octets.proofs.Kit.{ℕ, ◌+◌, ◌-◌, ◌/◌, ◌≤◌, ◌<◌, ◌≡◌, refl, sym, ap, ap₂, subst, ◌∙◌, true, List, [], ◌∷◌, ◌++◌, add-zero, arith, length, get_or, take, drop, length-take, length-drop}
use Rattle.octets.proofs.Kit.{take-append-drop, drop-drop, get_or-drop, take_all, le-leb}
use Rattle.std.specs.Prelude.{Ok}
use Rattle.octets.{specs.{Bytes.num_at, Octets.{Octets, ReadFrom}}, proofs.Numbers.num_one}
use Rattle.cemi.specs.{Layout.{table, info_length, octet6, stated, ◌of◌, bytes_in}, Read.{fields_in, frame_in, read_frame}, Parts.{info_of, tpdu_of}}
use Rattle.cemi.specs.{Write.{numbers_of, under, front_bytes, encoded, writable}, declared.Frame.Frame}
use Rattle.cemi.proofs.promises.{Tables.{numbers_at, bytes_there}, Standards.{IsStandard, reads_standard, accepts}}

-- code and additional information, and what follows them
front_there : (b : List ℕ) → 2 + info_length b ≤ length b → front_bytes (num_at b 0 1) (take (info_length b) (drop 2 b)) ++ drop (2 + info_length b) b ≡ b
front_there [] h = absurd (omega arith)
front_there (x ∷ []) h = absurd (omega arith)
front_there (x ∷ y ∷ r) h =
    let b : List ℕ = x ∷ y ∷ r in
    let n : ℕ = info_length b in
    let l : length (take n r) ≡ y = simp length-take (omega (arith, num_one b 1)) in
    ap₂ (λ (i j : ℕ). i ∷ j ∷ (take n r ++ drop (2 + n) b)) (num_one b 0) l
    ∙ ap (λ (z : List ℕ). x ∷ y ∷ (take n r ++ z)) (sym (drop-drop n 2 b))
    ∙ ap (λ (z : List ℕ). x ∷ y ∷ z) (take-append-drop n r)

-- transport's own bits put back
under_same : (a : List ℕ) (t : ℕ) → t ≡ get_or a 0 0 / 4 → under t a ≡ a
unfolding under
under_same [] t e = refl
under_same (x ∷ a) t e = ap (λ (n : ℕ). n ∷ a) (omega arith)

module _ (b : List ℕ) (small : Octets b) (s : IsStandard b) where
  abbrev l : ℕ
  l = info_length b

  info_is : info_of (frame_in b) b ≡ take l (drop 2 b)
  info_is = rw (le-leb (2 + l) (length b) (omega (arith, s.long)))

  tpdu_is : tpdu_of (frame_in b) b ≡ drop (octet6 l) b
  tpdu_is =
      rw (le-leb (octet6 l + (stated of b + 1)) (length b) (omega (arith, s.stated)))
      (take_all (stated of b + 1) (drop (octet6 l) b) (rw (length-drop (octet6 l) b) (omega (arith, s.stated))))

  pub length_info : length (info_of (frame_in b) b) ≡ l
  length_info = ap length info_is ∙ simp (length-take, length-drop) (omega (arith, s.long))

  pub length_tpdu : length (tpdu_of (frame_in b) b) ≡ stated of b + 1
  length_tpdu = ap length tpdu_is ∙ simp length-drop (omega (arith, s.stated))

  same : encoded (fields_in b) (info_of (frame_in b) b) (tpdu_of (frame_in b) b) ≡ b
  unfolding encoded
  same =
      let i : List ℕ = info_of (frame_in b) b in
      let a : List ℕ = tpdu_of (frame_in b) b in
      let n : length a - 1 ≡ stated of b = omega (arith, length_tpdu) in
      let t : under (fields_in b).transport a ≡ drop (octet6 l) b =
      ap (under (fields_in b).transport) tpdu_is
      ∙ under_same (drop (octet6 l) b) (fields_in b).transport (ap (λ (k : ℕ). k / 4) (num_one b (octet6 l) ∙ sym (get_or-drop (octet6 l) b 0 0 ∙ ap (λ (k : ℕ). get_or b k 0) (add-zero (octet6 l)))))
      in
      let m : bytes_in table (numbers_at (2 + l) table b) ++ drop (2 + l + (0 + 7)) b ≡ drop (2 + l + 0) b =
      bytes_there table b (2 + l) 0 small (refl, (refl, (refl, (refl, (refl, tt))))) (omega (arith, s.long)) in
      let p : octet6 l ≡ 2 + l + (0 + 7) = omega arith in
      let q : 2 + l + 0 ≡ 2 + l = omega arith in
      ap₂ (λ (x : ℕ) (z : List ℕ). front_bytes (fields_in b).code i ++ (bytes_in table (numbers_of (fields_in b) x) ++ z)) n t
      ∙ ap (λ (z : List ℕ). front_bytes (fields_in b).code i ++ z) (ap (λ (k : ℕ). bytes_in table (numbers_at (2 + l) table b) ++ drop k b) p ∙ m ∙ ap (λ (k : ℕ). drop k b) q)
      ∙ ap (λ (z : List ℕ). front_bytes (fields_in b).code z ++ drop (2 + l) b) info_is
      ∙ front_there b (omega (arith, s.long))

  -- what reads may be written
  may : writable (fields_in b) (length (info_of (frame_in b) b)) (length (tpdu_of (frame_in b) b)) ≡ true
  unfolding writable
  may =
      let x : ℕ = stated of b in
      let y : x + 1 - 1 ≡ x = omega arith in
      let i : l < 256 = rw (num_one b 1) (small 1) in
      let t : num_at b (octet6 l) 1 < 256 = rw (num_one b (octet6 l)) (small (octet6 l)) in
      rw (length_info, length_tpdu, y, le-leb l 255 (omega arith), le-leb (fields_in b).transport 63 (omega arith), le-leb 1 (x + 1) (omega arith))
      (rw (le-leb (x + 1) 16 (omega (arith, s.short)), s.stated, accepts (length b) l (fields_in b) x s))

module _ (b : List ℕ) (f : Frame) (call : ReadFrom b (Ok f) (read_frame b)) where
  pub write_back : encoded f.fields (info_of f b) (tpdu_of f b) ≡ b
  write_back =
      let r = reads_standard b f (sym call.is) in
      subst (λ (g : Frame). encoded g.fields (info_of g b) (tpdu_of g b) ≡ b) r.1 (same b call.bytes r.0)

  pub writes_again : writable f.fields (length (info_of f b)) (length (tpdu_of f b)) ≡ true
  writes_again =
      let r = reads_standard b f (sym call.is) in
      subst (λ (g : Frame). writable g.fields (length (info_of g b)) (length (tpdu_of g b)) ≡ true) r.1 (may b call.bytes r.0)
