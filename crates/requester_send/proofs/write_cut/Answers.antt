-- A packet more reaches its bytes further into the buffer.
use Rattle.std.proofs.Common.{◌≡◌, ◌++◌, ◌+◌, ◌-◌, ℕ, List, length, drop, take, add-one, arith, length-append}
use Rattle.lent.proofs.Stores.{put_behind, put_part}
use Rattle.mctp.specs.Cut.{packet, cut_from, end_to_end}
use Rattle.mctp.specs.declared.Route.{Route}
use Rattle.mctp.proofs.Ends.{one_more}
use Rattle.requester_send.proofs.write_cut.Goals as goal

-- the first k packets, end to end
abbrev front : ℕ → Route → List ℕ → ℕ → List ℕ
front unit route message k = end_to_end (cut_from unit route message 0 k)

-- packet k, written to the part behind those before it
one_packet : (unit : ℕ) (route : Route) (message out₀ out part : List ℕ) (k at n : ℕ) → at ≡ length (front unit route message k)
    → out ≡ front unit route message k ++ drop at out₀ → n ≡ length (packet unit route message k)
    → part ≡ packet unit route message k ++ drop n (take (length out - at) (drop at out))
    → (at + n ≡ length (front unit route message (k + 1)))
    × (take at out ++ (part ++ drop (length out - at) (drop at out)) ≡ front unit route message (k + 1) ++ drop (at + n) out₀)
one_packet unit route message out₀ out part k at n at-is out-is n-is part-is =
    let more = one_more unit route message k in (
      rw (add-one k, more, length-append) (omega arith),
      rw (part-is, n-is, put_part out (packet unit route message k) at, out-is, at-is, put_behind, add-one k, more),
    )

pub loop-k-preserved : goal.loop-k-preserved
loop-k-preserved c =
    let i = c.loop-k.invariant in
    let w = c.write_packet-at.ensures in
    one_packet _ _ _ _ _ _ _ _ _ i.0 i.1 w.value w.out_after
