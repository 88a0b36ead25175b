use Rattle.std.proofs.Common.{[], ◌∷◌, get_or, replicate, sym, ap, ◌∙◌}
use Rattle.std.specs.Cmp.Lexicographic.{same_text}
use Rattle.source_map.proofs.PutTexts.{zeros}
use Rattle.source_map.proofs.puts.+ends_put.Goals as goal

pub returns-then-is_end : goal.returns-then-is_end
returns-then-is_end t c same = record {
  fit = c.fits-numbers;
  members = [];
  cover = λ j. ap (λ ns. get_or ns j 0) (same_text c.args.left (replicate 9 0) (sym same ∙ c.eq.ensures)) ∙ zeros j;
  tokens = c.is_end.ensures c.if-is_end.true;
}

pub returns : goal.returns
returns t c ended =
    let more = c.ends_put.ensures ended in
    record {
      fit = c.fits-numbers;
      members = c.in-Some.index ∷ more.members;
      cover = (c.in-Some.ensures.index, more.cover);
      tokens = c.in-Some.ensures.tokens _ more.tokens;
    }
