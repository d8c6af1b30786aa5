-- What the type of a prefix says of it.
use Rattle.std.proofs.Common.{◌≡◌, ℕ, ◌≤◌, ◌<◌, ◌^◌, true, sym, ap, subst, ◌∙◌, arith, Some}
use Rattle.std.specs.Prelude.{nat_le}
use Rattle.std.proofs.lemmas.Bool.{le-leb}
use Rattle.mud_base.specs.Addresses.{addr_bits, masked, same_addr}
use Rattle.mud_base.specs.declared.addr.Addr.{Addr}
use Rattle.mud_base.specs.declared.addr.Addr.TheVariants.{V4, V6}
use Rattle.mud_base.specs.declared.prefix.Prefix.{Prefix}
use Rattle.mud_base.specs.declared.packet.Transport.{Transport}
use Rattle.mud_base.specs.declared.packet.Transport.TheVariants as packet
use Rattle.table_model.specs.ItemFields.{IsAddr}
use Rattle.table_model.specs.Binds.{is_prefix, IsKeptNetwork}
use Rattle.table_model.proofs.RowSets.{both, same_addr_itself}
use Rattle.table_model.specs.declared.segment.Segment.{Segment}
use Rattle.table_model.proofs.Parts.{segment_in}

bits_few : (a : Addr) → addr_bits a ≤ 128
unfolding addr_bits
bits_few (V4 n) = omega arith
bits_few (V6 n) = omega arith

len_fits : (n bits : ℕ) → n ≤ bits → bits ≤ 128 → n < 2 ^ 8
len_fits n bits within few = omega (arith, within, few)

pub kept_network : (p : Prefix) (a : Addr) (n : ℕ) → a ≡ p.addr → masked a p.len ≡ a → n ≡ p.len → n ≤ addr_bits p.addr → IsAddr a → IsKeptNetwork p
unfolding is_prefix
kept_network p a n addr cleared len within fits =
    let few : p.len ≤ addr_bits p.addr = subst (λ k. k ≤ addr_bits p.addr) len within in
    let same : same_addr (masked p.addr p.len) p.addr ≡ true = ap (λ b. same_addr b p.addr) (sym (ap (λ b. masked b p.len) addr) ∙ cleared ∙ addr) ∙ same_addr_itself p.addr in
    record {
      sound = both (nat_le p.len (addr_bits p.addr)) (same_addr (masked p.addr p.len) p.addr) (le-leb p.len (addr_bits p.addr) few) same;
      fits = (subst IsAddr addr fits, len_fits p.len (addr_bits p.addr) few (bits_few p.addr));
    }

pub segment_at : (src dst : Addr) (now : ℕ) (t : Transport) (q : Segment) → segment_in src dst now t ≡ Some q → q.at ≡ now
segment_at src dst now (packet.Tcp from to flags) q e = cc
segment_at src dst now (packet.Udp from to) q e = cc
segment_at src dst now (packet.Icmp kind code) q e = cc
segment_at src dst now packet.Absent q e = cc
