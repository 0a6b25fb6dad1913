use Rattle.std.proofs.Common.{◌≡◌, ℕ, suc, ◌+◌, ◌-◌, ◌*◌, ◌/◌, length, refl, arith}
use borrow.Author.Tests.{le-leb, lt-leb}
use Rattle.keyed_hash.specs.Hashing.{mix_blocks, write}
use Rattle.keyed_hash.proofs.KeyedHasherHasher.write.Goals as goal

pub returns-then-len-le8 : goal.returns-then-len-le8
unfolding write
returns-then-len-le8 c = rw (c.folded_multiply-self.ensures, c.read_short.ensures, le-leb (length c.args.bytes.now) 8 c.if-len-le8.true)

pub loop-at-init : goal.loop-at-init
unfolding mix_blocks
loop-at-init c = (refl, omega arith, refl)

pub loop-at-preserved : goal.loop-at-preserved
unfolding mix_blocks
loop-at-preserved c =
    let at : ℕ = c.loop-at.at in
    let whole : at ≡ 16 * (at / 16) = omega (arith, c.loop-at.invariant.0) in
    let more : (at + 16) / 16 ≡ suc (at / 16) = omega arith in (
      omega arith,
      omega arith,
      rw (more, c.folded_multiply-state.ensures, c.read_u64.ensures, c.read_u64-in-loop-at.ensures, ← c.loop-at.invariant.2, ← whole),
    )

pub returns : goal.returns
unfolding write
returns c =
    let n : ℕ = length c.args.bytes.now in
    let count : (n - 1) / 16 ≡ c.loop-at.at / 16 = omega (arith, c.loop-at.invariant.0, c.loop-at.invariant.1, c.loop-at-test.false) in
    rw (lt-leb n 8 c.if-len-le8.false, count, ← c.loop-at.invariant.2, c.folded_multiply-self-2.ensures, c.read_u64-2.ensures, c.read_u64-3.ensures, c.saturating_sub.ensures)
