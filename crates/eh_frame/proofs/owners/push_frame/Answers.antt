use Rattle.std.proofs.Common.{◌≡◌, ◌++◌, ◌∷◌, [], List, Option, get_or, map, ap, sym, ◌∙◌, arith, rules}
use Rattle.std.specs.Global.{Vec}
use Rattle.lk_tables.specs.declared.records.FrameNo.{FrameNo}
use Rattle.eh_frame.specs.Owners.{with_frame}
use Rattle.eh_frame.proofs.Owning.{pushed}
use Rattle.eh_frame.proofs.owners.push_frame.Goals as goal

items : Vec FrameNo → List FrameNo
items list = list.items

pub returns-in_ok-push : goal.returns-in_ok-push
returns-in_ok-push c =
    let old = c.args.of.now.items in
    let own : c.push.new.self.items ≡ (get_or old c.in-Some.owner c.index_mut.result.now).items ++ c.args.frame ∷ [] =
    c.in_ok-push.ensures.items ∙ ap (λ (v : Vec FrameNo). v.items ++ c.args.frame ∷ []) c.index_mut.ensures.value in
    pushed old c.in-Some.owner c.args.frame c.push.new.self c.index_mut.result.now (search (rules, arith)) own
    ∙ ap (λ (o : Option _). with_frame o c.args.frame (map (λ (list : Vec FrameNo). list.items) old)) (sym c.in-Some.is)
