-- THE DEVICE'S ANSWER, WRITTEN INTO AN ANSWERING FRAME, READS BACK AS THAT PDU, and as data in the mode of the request.
use Rattle.octets.proofs.Kit.{ℕ, ◌-◌, ◌≤◌, ◌<◌, ◌≡◌, refl, sym, ap, subst, ◌∙◌, true, ◌⊎◌, inl, inr, ⊎_elim, List, [], length, arith}
use Rattle.std.proofs.Common.{Ok}
use Rattle.octets.{specs.Octets.{Octets, ReadFrom}, proofs.Numbers.num_below}
use Rattle.sheet.specs.Layout.{◌of◌}
use Rattle.sheet.specs.Head as head
use Rattle.pdu.{specs.{Read.{read_pdu, data_of}, declared.Pdu.Pdu}, proofs.promises.Readings.reading}
use Rattle.cemi.specs.{Layout.{table, Fit}, Parts.tpdu_of, Means.Means, Write.{numbers_of, under, encoded, frame_of, writable}, Read.read_frame, declared.{Fields.Fields, Frame.Frame}}
use Rattle.cemi.{specs.declared.Meaning.TheVariants.Data, proofs.{promises.Backs.{read_back, info_part, tpdu_part}, Wrote.bounds, promises.Standards.reads_standard}}
use Rattle.cemi.proofs.promises.Answers.{answer_writable, answer_fits, answer_means}
use Rattle.judge.specs.declared.Session.{Session}
use Rattle.device.{specs.{Asked.Asked, Step.step_of}, proofs.promises.AnswerReads.answer_reads}
use Rattle.frames.specs.Answering.{answer_to, Brings}
use Rattle.frames.proofs.promises.{SameApdu.{read_alike, data_alike}, Heard.{under_alike, as_it_is}}

-- any PDU in any frame that can be written
pub brought :
    (g : Fields) (i a : List ℕ) (p : Pdu) (d : List ℕ) →
    Fit table (numbers_of g (length a - 1)) → writable g (length i) (length a) ≡ true → read_pdu a ≡ Ok p → data_of p a ≡ d →
    Brings (encoded g i a) g i a p d
brought g i a p d fit w e f =
    let t : tpdu_of (frame_of g i a) (encoded g i a) ≡ under g.transport a = tpdu_part g i a (bounds g (length i) (length a) w).some in
    let h = under_alike g.transport a in
    record {
      reads = read_back g i a fit w;
      info = info_part g i a;
      pdu = ap read_pdu t ∙ read_alike (under g.transport a) a h ∙ e;
      bytes = ap (data_of p) t ∙ data_alike (under g.transport a) a h p ∙ f;
    }

-- the addresses of a frame that reads, and the device's own
module _ (b : List ℕ) (f : Frame) (call : ReadFrom b (Ok f) (read_frame b)) where
  addresses : (f.fields.source < 65536) × (f.fields.destination < 65536)
  addresses =
      subst (λ (g : Frame). (g.fields.source < 65536) × (g.fields.destination < 65536)) (reads_standard b f (sym call.is)).1
      (num_below b _ 2 call.bytes, num_below b _ 2 call.bytes)

  -- THE ANSWER TO A REQUEST x THAT CAME IN THE FRAME: none, or a PDU that the answering frame brings
  pub answered :
      (x : Asked) (sequence : ℕ) → Octets x.sheet → Octets x.apdu →
      let a : List ℕ = (step_of x.room x.sheet x.session x.mode x.group x.apdu).answer in
      (a ≡ []) ⊎ ((p : Pdu) × (d : List ℕ) × Brings (encoded (answer_to f x sequence) [] a) (answer_to f x sequence) [] a p d)
  answered x sequence hs ha =
      ⊎_elim (λ e. inl e)
      (λ r.
      let a : List ℕ = (step_of x.room x.sheet x.session x.mode x.group x.apdu).answer in
      let k = reading a r.pdu r.reads in
      let some : 1 ≤ length a = omega (arith, k.least) in
      let own : head.address of x.sheet < 65536 = num_below x.sheet _ 2 hs in
      inr (
        r.pdu,
        r.bytes,
        brought (answer_to f x sequence) [] a r.pdu r.bytes
            (answer_fits f.fields (head.address of x.sheet) x.mode sequence (length a) some k.most own addresses.0 addresses.1)
            (answer_writable f.fields (head.address of x.sheet) x.mode sequence (length a) some k.most) r.reads r.gives,
      ))
      (answer_reads x hs ha)

-- AND IT IS DATA IN THE MODE OF THE REQUEST, as the frame was in which that came
pub answered_mode :
    (f : Frame) (x : Asked) (sequence : ℕ) (a : List ℕ) → Means f (Ok (Data x.mode)) → Means (frame_of (answer_to f x sequence) [] a) (Ok (Data x.mode))
answered_mode f x sequence a m = answer_means f (head.address of x.sheet) sequence (frame_of (answer_to f x sequence) [] a) x.mode refl m

-- A REQUEST THAT CAME IN A FRAME is dealt with as the APDU that was written into it
pub heard :
    (g : Fields) (i a : List ℕ) (room : ℕ) (s : List ℕ) (q : Session) (mode group : ℕ) → writable g (length i) (length a) ≡ true →
    step_of room s q mode group (tpdu_of (frame_of g i a) (encoded g i a)) ≡ step_of room s q mode group a
heard g i a room s q mode group w =
    ap (step_of room s q mode group) (tpdu_part g i a (bounds g (length i) (length a) w).some) ∙ as_it_is g.transport room s q mode group a
