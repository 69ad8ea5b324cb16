-- A FRAME THAT kelindap_frame_read READ, WRITTEN AGAIN BY kelindap_frame_write, HAS THE SAME BYTES; AND WHAT WAS WRITTEN IS READ BACK. Assumes nothing.
use Rattle.octets.proofs.Kit.{ℕ, ◌+◌, ◌-◌, ◌≤◌, ◌≡◌, refl, sym, ap, ap₂, subst, ◌∙◌, List, arith, length, take, drop, take_at, le-leb}
use Rattle.octets.specs.Octets.{ReadFrom}
use Rattle.cemi.specs.{Layout.{table, octet6, Fit}, Read.{read_frame}, Parts.{part_of, info_of, tpdu_of}}
use Rattle.cemi.specs.{Write.{numbers_of, under, encoded, frame_of, count_of, write_outcome, write_count, Wrote}, declared.{Frame.Frame, ReadRefusal.ReadRefusal, WriteRefusal.WriteRefusal}}
use Rattle.std.specs.Prelude.{Result, Ok, Err}
use Rattle.cemi.proofs.promises.{Standards.reads_standard, Agains.{write_back, writes_again}}
use Rattle.cemi.proofs.{promises.{Backs.{length_encoded, info_part, tpdu_part}, Filled.{writes_0, buffer_filled, buffer_back, went_well}}, Wrote.bounds}
use Rattle.cemi.specs.Refusal.{read_number}
use Rattle.cemi.specs.declared.ReadRefusal.TheVariants.{Short, Code, Extended, Length}
use Rattle.tool.specs.{FlatFrame.{laid_frame, flat_got, flat_frame, fields_of, frame_written, FrameWrote}, FrameBack.{info_in, tpdu_in, FrameInC, FrameGivenBack}}
use Rattle.tool.specs.declared.{FlatFrame.FlatFrame, Framed.Framed}

-- a part that lies in the frame
part_is : (b : List ℕ) (at n : ℕ) → at + n ≤ length b → take n (drop at b) ≡ part_of b at n
part_is b at n h = rw (le-leb (at + n) (length b) h)

-- the call of `cemi::write` inside
module _ (f : FlatFrame) (i a o e : List ℕ) (w : Framed) (call : FrameWrote f i a o w e) where
  inside : Wrote (fields_of f) i a o (frame_written f i a o) e
  inside = record { result = refl; buffer = call.buffer }

  outcome_is : w.outcome ≡ write_outcome (frame_written f i a o)
  outcome_is = ap (λ (x : Framed). x.outcome) call.result

  count_is : w.count ≡ write_count (frame_written f i a o)
  count_is = ap (λ (x : Framed). x.count) call.result

  -- as many bytes as counted are the frame's
  front : w.outcome ≡ 0 → take w.count e ≡ encoded (fields_of f) i a
  front z =
      let b = buffer_filled (fields_of f) i a o e (frame_written f i a o) inside (sym outcome_is ∙ z) in
      ap (λ (n : ℕ). take n e) count_is
      ∙ ap (take (write_count (frame_written f i a o))) b.1
      ∙ take_at (encoded (fields_of f) i a) (drop (write_count (frame_written f i a o)) o) (write_count (frame_written f i a o)) (sym b.0)

module _ (b : List ℕ) where
  -- a frame that reads, its parts where it says that they stand
  module _ (f : Frame) (e : read_frame b ≡ Ok f) where
    within : (2 + f.info ≤ length b) × (octet6 f.info + (f.stated + 1) ≤ length b)
    within =
        let s = reads_standard b f e in
        subst (λ (g : Frame). (2 + g.info ≤ length b) × (octet6 g.info + (g.stated + 1) ≤ length b)) s.1 (omega (arith, s.0.long), omega (arith, s.0.stated))

    info_is : info_in (laid_frame f) b ≡ info_of f b
    info_is = part_is b 2 f.info within.0

    tpdu_is : tpdu_in (laid_frame f) b ≡ tpdu_of f b
    tpdu_is = part_is b (octet6 f.info) (f.stated + 1) within.1

  again :
      (f : Frame) → ReadFrom b (Ok f) (read_frame b) → (o e : List ℕ) (w : Framed) →
      FrameWrote (laid_frame f) (info_in (laid_frame f) b) (tpdu_in (laid_frame f) b) o w e → length b ≤ length o →
      (w.outcome ≡ 0) × (take w.count e ≡ b)
  again f call o e w wrote room =
      let q = sym call.is in
      let same : encoded f.fields (info_in (laid_frame f) b) (tpdu_in (laid_frame f) b) ≡ b = ap₂ (encoded f.fields) (info_is f q) (tpdu_is f q) ∙ write_back b f call in
      let k = rw (sym (info_is f q), sym (tpdu_is f q)) at (writes_again b f call) in
      let fits : count_of (length (info_in (laid_frame f) b)) (length (tpdu_in (laid_frame f) b)) ≤ length o =
      omega (arith, room, length_encoded f.fields (info_in (laid_frame f) b) (tpdu_in (laid_frame f) b), ap length same) in
      let z : w.outcome ≡ 0 = outcome_is (laid_frame f) _ _ o e w wrote ∙ writes_0 f.fields _ _ (length o) k fits in
      (z, front (laid_frame f) _ _ o e w wrote z ∙ same)

  by_got :
      (g : Result Frame ReadRefusal) → ReadFrom b g (read_frame b) → (flat_got g).outcome ≡ 0 → (o e : List ℕ) (w : Framed) →
      FrameWrote (flat_got g) (info_in (flat_got g) b) (tpdu_in (flat_got g) b) o w e → length b ≤ length o →
      (w.outcome ≡ 0) × (take w.count e ≡ b)
  by_got (Ok f) call z = again f call
  by_got (Err n) call z = absurd (some n z)
    where
      some : (e : ReadRefusal) → read_number e ≡ 0 → ⊥
      some Short h = omega (arith, h)
      some Code h = omega (arith, h)
      some Extended h = omega (arith, h)
      some Length h = omega (arith, h)

-- FRAME-BACK: written again with its fields and its parts, as they were handed up, a frame has the same bytes
pub frame_back :
    (b : List ℕ) (r : FlatFrame) → ReadFrom b r (flat_frame b) → r.outcome ≡ 0 → (o e : List ℕ) (w : Framed) →
    FrameWrote r (info_in r b) (tpdu_in r b) o w e → length b ≤ length o →
    (w.outcome ≡ 0) × (take w.count e ≡ b)
unfolding flat_frame
frame_back b r call =
    subst
    (λ (f : FlatFrame).
    f.outcome ≡ 0 → (o e : List ℕ) (w : Framed) → FrameWrote f (info_in f b) (tpdu_in f b) o w e → length b ≤ length o → (w.outcome ≡ 0) × (take w.count e ≡ b))
    (sym call.is) (by_got b (read_frame b) (record { is = refl; bytes = call.bytes }))

-- AND THE OTHER WAY ROUND: of what a write with outcome 0 leaves in the buffer, as many bytes as counted read to the same fields and the same parts
pub frame_given_back :
    (f : FlatFrame) (i a o e : List ℕ) (w : Framed) → FrameInC f → FrameWrote f i a o w e → w.outcome ≡ 0 →
    FrameGivenBack f i a (take w.count e) (flat_frame (take w.count e))
unfolding flat_frame
frame_given_back f i a o e w c call z =
    let r : Result ℕ WriteRefusal = frame_written f i a o in
    let x = inside f i a o e w call in
    let y : write_outcome r ≡ 0 = sym (outcome_is f i a o e w call) ∙ z in
    let k = bounds (fields_of f) (length i) (length a) (went_well (fields_of f) i a o e r x y) in
    let fit : Fit table (numbers_of (fields_of f) (length a - 1)) = (c.control1, (c.control2, (c.source, (c.destination, (omega (arith, k.few), tt))))) in
    let reads : read_frame (take w.count e) ≡ Ok (frame_of (fields_of f) i a) = ap (λ (n : ℕ). read_frame (take n e)) (count_is f i a o e w call) ∙ buffer_back (fields_of f) i a o e r x fit y in
    let b = front f i a o e w call z in
    let l = length_encoded (fields_of f) i a in
    let info : take (length i) (drop 2 (take w.count e)) ≡ i =
    ap (λ (s : List ℕ). take (length i) (drop 2 s)) b
    ∙ part_is (encoded (fields_of f) i a) 2 (length i) (omega (arith, l))
    ∙ info_part (fields_of f) i a in
    let tpdu : take (length a - 1 + 1) (drop (octet6 (length i)) (take w.count e)) ≡ under f.transport a =
    ap (λ (s : List ℕ). take (length a - 1 + 1) (drop (octet6 (length i)) s)) b
    ∙ part_is (encoded (fields_of f) i a) (octet6 (length i)) (length a - 1 + 1) (omega (arith, l, k.some))
    ∙ tpdu_part (fields_of f) i a k.some in
    rw reads
    record {
      outcome = refl;
      code = refl;
      control1 = refl;
      control2 = refl;
      source = refl;
      destination = refl;
      transport = refl;
      info = info;
      tpdu = tpdu;
    }
