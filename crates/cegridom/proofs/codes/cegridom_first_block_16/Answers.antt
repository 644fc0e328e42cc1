-- `cegridom::codes::cegridom_first_block_16` meets its contract: what is chosen, taken apart, and `first_means` says what that means. Assumes nothing.
use Rattle.std.proofs.Common.{ap, ◌∙◌}
use Rattle.comparison.specs.Calls.{word_in, length_in}
use Rattle.comparison.proofs.CallClaims.{first_means}
use Rattle.cegridom.proofs.codes.cegridom_first_block_16.Goals as goal

pub returns-clause-meaning : goal.returns-clause-meaning
returns-clause-meaning c =
    let k = c.compare-answer.ensures in
    let h = c.hand_over_choice.ensures in
    rw (h.which_after ∙ ap word_in k.answer, h.symbols_after ∙ ap length_in k.answer, k.worked) (first_means c.args.a.now c.args.b.now c.args.edition c.args.work.now)
