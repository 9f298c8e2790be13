use Rattle.std.proofs.Common.{◌≡◌, ℕ, refl, ap, ◌∙◌}
use Rattle.rand_core.specs.Steps.{stream_of}
use Rattle.rand_core.specs.Stream.{Stream, next_u64}
use Rattle.rand_xoshiro.specs.SplitMix64.{mix_u64, splitmix_steps}
use Rattle.explorer.proofs.chance.mixed.Goals as goal

-- the first word of the stream
first_word : (x : ℕ) → (next_u64 (stream_of splitmix_steps x)).0 ≡ (mix_u64 x).0
unfolding next_u64 stream_of
first_word x = refl

-- the generator's first word, from the hash and the number as its state
pub returns : goal.returns
returns c =
    ap (λ (p : ℕ × Stream). p.0) c.next_u64.ensures
    ∙ first_word c.seed_from_u64.result
    ∙ ap (λ (x : ℕ). (mix_u64 x).0) c.seed_from_u64.ensures.same
