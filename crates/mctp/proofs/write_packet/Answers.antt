-- The part put behind the header is the payload, and what is left fits one unit where the packet is the last.
use Rattle.std.proofs.Common.{◌≡◌, ◌++◌, min, ◌+◌, ◌-◌, ◌*◌, ℕ, Bool, List, length, take, drop, ◌∙◌, arith}
use lib.Dec.{eqb}
use lib.ListN.{take-append-drop}
use lib.Seq.{take-append_seam}
use Rattle.lent.specs.Bytes.{put}
use Rattle.lent.proofs.Stores.{put_behind}
use Rattle.mctp.specs.Header.{header_bytes}
use Rattle.mctp.specs.Cut.{packets, payload, packet}
use Rattle.mctp.specs.declared.Route.{Route}
use Rattle.mctp.proofs.Laws.{payload_length, last_left}
use Rattle.mctp.proofs.write_packet.Goals as goal

-- a part that is as long as the payload is the payload
part : (at n unit : ℕ) (l : List ℕ) → n ≡ length (take unit l) → take (at + n - at) l ≡ take unit l
part at n unit l e =
    let f : at + n - at ≡ length (take unit l) = omega arith in
    rw f (rw (take-append-drop unit l) at (take-append_seam (take unit l) (drop unit l)))

-- the header at the front of the store and the part put behind it are the packet
module _ (unit k n : ℕ) (route : Route) (message out front exit : List ℕ) (eom : Bool) where
  written : n ≡ min (length message - unit * k) unit → eqb (k + 1) (packets unit (length message)) ≡ eom
      → front ≡ header_bytes route.destination route.source (eqb k 0) eom k route.to route.tag ++ drop 4 out
      → exit ≡ put front 4 (take (unit * k + n - unit * k) (drop (unit * k) message))
      → (4 + n ≡ length (packet unit route message k)) × (exit ≡ packet unit route message k ++ drop (4 + n) out)
  unfolding packet
  written count last header whole =
      let e : n ≡ length (payload unit message k) = omega (arith, payload_length unit message k) in
      let h = header_bytes route.destination route.source (eqb k 0) eom k route.to route.tag in (
        omega arith,
        whole ∙ rw (header, last, part (unit * k) n unit (drop (unit * k) message) e, e) (put_behind h out (payload unit message k)),
      )

pub returns : goal.returns
returns c =
    let a = c.args in
    let w = written a.unit a.k c.min-n.result a.route a.message.now a.out.now _ _ _ c.min-n.ensures (last_left a.unit (length a.message.now) a.k c.requires.0 c.requires.1) c.write_header.ensures c.put.ensures in
    record { value = w.0; out_after = w.1; fits = omega (arith, c.requires) }
