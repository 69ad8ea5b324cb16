-- AN ANSWER IS NEVER LOST to 46 or 47: whatever a request answers is sent, whole, in a frame that reads, and that means data in the mode of the request. Assumes nothing.
use Rattle.octets.proofs.Kit.{ℕ, ◌+◌, ◌≤◌, ◌<◌, ◌≡◌, refl, ap, subst, ◌∙◌, List, [], ◌∷◌, Bool, true, false, cond, length, take, leb, arith, le-ltb}
use Rattle.octets.{specs.{Octets.Octets, Splice.splice}, proofs.{Numbers.num_below, Splices.{splice_none, splice_read}}}
use Rattle.sheet.specs.Layout.{◌of◌}
use Rattle.sheet.specs.Head as head
use Rattle.cemi.specs.{Read.{fields_in, frame_in, read_frame}, Means.Means, Write.{encoded, frame_of}, Answering.answering, declared.{Fields.Fields, Meaning.TheVariants.Data}}
use Rattle.cemi.proofs.promises.{Answers.{answer_writable, answer_fits, answer_means}, Backs.{length_encoded, read_back}}
use Rattle.std.specs.Prelude.{Ok}
use Rattle.device.{specs.{Sessions.session_for, Events.request_of}, proofs.promises.Demand1.at_most_16}
use Rattle.link.specs.{Hearing.{own_of, heard_of}, Serving.{most, longest, apdu_of, answer_frame, Deed, deed_of, serve_of, ServedFrame}, Due.{HeardDue, to_group, to_all, plain, partners}}
use Rattle.link.specs.declared.{Link.Link, Served.Served, Arrived.TheVariants.Request}
use Rattle.link.proofs.promises.Dues.{heard_due}

-- the own address fits its field
own_fits : (s : List ℕ) → Octets s → own_of s < 65536
unfolding own_of
own_fits s o = go (leb 18 (length s))
  where
    go : (t : Bool) → cond t (head.address of s) 0 < 65536
    go true = num_below s 16 2 o
    go false = omega arith

-- a frame that is due as a request means data in its mode
request_means : {k : Link} {own : ℕ} {b : List ℕ} {mode c group : ℕ} → HeardDue k own b (Request mode c group) → Means (frame_in b) (Ok (Data mode))
request_means (to_group o m) = m
request_means (to_all o m) = m
request_means (plain o m) = m
request_means (partners c o m h) = m

module _ (k : Link) (sequence : ℕ) (b s o : List ℕ) (r : Served) (s' o' : List ℕ) (call : ServedFrame k sequence b s o r s' o')
    (room : longest ≤ length o) (mode c group : ℕ) (heard : heard_of k (own_of s) b ≡ Request mode c group) where
  -- the request's answer, and the fields of the frame that brings it
  abbrev answer : List ℕ
  answer = (request_of most s k.sessions mode c group (apdu_of b)).answer

  abbrev fields : Fields
  fields = answering (fields_in b) (own_of s) mode sequence

  few : length answer ≤ 16
  unfolding request_of
  few = at_most_16 most s (session_for k.sessions mode c) mode group (apdu_of b)

  deed : serve_of k sequence b s (length o) ≡ deed_of k (fields_in b) sequence (apdu_of b) s (Request mode c group)
  unfolding serve_of
  deed = rw (le-ltb (length o) longest room, heard)

  sent : (r.count ≡ length (answer_frame fields answer)) × (o' ≡ splice o 0 (answer_frame fields answer))
  unfolding deed_of
  sent = (
    ap (λ (q : Served). q.count) call.did.result ∙ ap (λ (d : Deed). length d.answer) deed,
    call.did.buffer ∙ ap (λ (d : Deed). splice o 0 d.answer) deed,
  )

  -- the frame's numbers
  frames : (a : List ℕ) → 1 ≤ length a → length a ≤ 16 → answer_frame fields a ≡ encoded fields [] a
  frames [] h l = absurd (omega arith)
  frames (x ∷ a) h l = refl

  -- SOME ANSWER: it fills as many bytes as it has and nine more, and these read as the answering frame
  pub never_lost :
      1 ≤ length answer →
      (r.count ≡ 9 + length answer)
      × (take r.count o' ≡ encoded fields [] answer)
      × (read_frame (take r.count o') ≡ Ok (frame_of fields [] answer))
  never_lost some =
      let e : answer_frame fields answer ≡ encoded fields [] answer = frames answer some few in
      let n : r.count ≡ 9 + length answer = sent.0 ∙ ap length e ∙ length_encoded fields [] answer in
      let fits : 0 + length (encoded fields [] answer) ≤ length o = omega (arith, few, length_encoded fields [] answer) in
      let t : take r.count o' ≡ encoded fields [] answer =
      ap (λ (z : List ℕ). take r.count z) (sent.1 ∙ ap (splice o 0) e)
      ∙ ap (λ (m : ℕ). take m (splice o 0 (encoded fields [] answer))) (sent.0 ∙ ap length e)
      ∙ splice_read o 0 (encoded fields [] answer) fits in (
        n,
        t,
        ap read_frame t
            ∙ read_back fields [] answer
            (answer_fits (fields_in b) (own_of s) mode sequence (length answer) some few (own_fits s call.sheet_bytes) (num_below b _ 2 call.frame_bytes) (num_below b _ 2 call.frame_bytes))
            (answer_writable (fields_in b) (own_of s) mode sequence (length answer) some few),
      )

  -- AND THEY MEAN DATA IN THE MODE OF THE REQUEST
  pub answer_mode : Means (frame_of fields [] answer) (Ok (Data mode))
  answer_mode =
      answer_means (frame_in b) (own_of s) sequence (frame_of fields [] answer) mode refl
      (request_means (subst (HeardDue k (own_of s) b) heard (heard_due k (own_of s) b)))

  -- NO ANSWER: the buffer is as found
  pub none_sent : answer ≡ [] → (r.count ≡ 0) × (o' ≡ o)
  none_sent e = (sent.0 ∙ ap (λ (a : List ℕ). length (answer_frame fields a)) e, sent.1 ∙ ap (λ (a : List ℕ). splice o 0 (answer_frame fields a)) e ∙ splice_none o 0)
