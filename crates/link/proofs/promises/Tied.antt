-- THE CODE DOES WHAT THE HISTORIES OF FRAMES SAY: what `serve` leaves of link and sheet is `net_by`. Assumes nothing.
use Rattle.octets.proofs.Kit.{ℕ, ◌≤◌, ◌≡◌, refl, ap, ◌∙◌, List, length, le-ltb}
use Rattle.cemi.specs.Read.{fields_in}
use Rattle.events.specs.Events.{event_of, after, run_by, run}
use Rattle.link.specs.{Hearing.{own_of, heard_of}, Serving.{longest, apdu_of, Deed, deed_of, serve_of, ServedFrame}}
use Rattle.link.specs.{Net.{Net, net_of, frame, heard_in, net_by, source_of, state_of, events_of, address_by}, declared.{Link.Link, Served.Served, Arrived.Arrived}}
use Rattle.link.specs.declared.Arrived.TheVariants.{Request, Connect, Disconnect, Nothing}

module _ (k : Link) (sequence : ℕ) (b s : List ℕ) where
  -- link and sheet after what arrived
  abbrev left : Arrived → Net
  left y =
      let z = run (state_of (net_of k s)) (events_of y (apdu_of b)) in
      net_of record { sessions = z.sessions; first = address_by 0 (source_of b) y k.first; second = address_by 1 (source_of b) y k.second } z.sheet

  abbrev of : Deed → Net
  of d = net_of d.link d.sheet

  deed_is : (y : Arrived) → of (deed_of k (fields_in b) sequence (apdu_of b) s y) ≡ left y
  unfolding deed_of run_by after event_of
  deed_is (Request mode c group) = refl
  deed_is (Connect c) = refl
  deed_is (Disconnect c) = refl
  deed_is (Nothing n c) = refl

  serve_is : (room : ℕ) → longest ≤ room → of (serve_of k sequence b s room) ≡ net_by (net_of k s) (frame b)
  unfolding serve_of net_by heard_in
  serve_is room l = rw (le-ltb room longest l) (deed_is (heard_of k (own_of s) b))

  -- LINK AND SHEET AFTER A CALL are those after the frame
  module _ (o : List ℕ) (r : Served) (s' o' : List ℕ) where
    pub served_is : ServedFrame k sequence b s o r s' o' → longest ≤ length o → net_of r.link s' ≡ net_by (net_of k s) (frame b)
    served_is h l =
        ap (λ (q : Served). net_of q.link s') h.did.result
        ∙ ap (net_of (serve_of k sequence b s (length o)).link) h.did.sheet
        ∙ serve_is (length o) l
