-- SPDX-License-Identifier: Apache-2.0
use Rattle.mhost.proofs.HostWords.{refl, sym, ap, subst, ◌∙◌, Some, inl, inr, empty}
use Rattle.mhost.proofs.carrying_out.in_store.Goals as goal

pub returns-in-Ok-clause-works : goal.returns-in-Ok-clause-works
returns-in-Ok-clause-works g c =
    rw c.in-Memory.is (inr (record {
      globals = empty;
      begins = (c.in-Ok.ensures.sound, c.in-Ok.ensures.undoubted, refl);
      finds = λ sure. tt;
      old = c.in-Ok.world;
      new = c.in_world.new.world;
      by = c.in-Ok.ensures.settings;
      opens = c.in-Ok.ensures.world;
      does = c.in_world.ensures.does;
      leaves = λ other. refl;
      sure = tt;
      remains = tt;
    }))

pub returns-in-Err-clause-works : goal.returns-in-Err-clause-works
returns-in-Err-clause-works g c = rw c.in-Memory.is (inl (c.in-Err.ensures.early, (refl, refl)))

pub returns-in-Ok-file_world-clause-works : goal.returns-in-Ok-file_world-clause-works
returns-in-Ok-file_world-clause-works g c =
    let world = c.in-Ok-file_world.ensures.world in
    let path = c.as_str-path.ensures.value in
    rw c.in-File.is (inr (record {
      globals = world.0;
      begins = λ t. let told = world.2 t in (told.0, ap (g.F.StoreFiles.held c.args.files.now) (sym path) ∙ told.1);
      finds = world.3;
      old = c.in-Ok-file_world.world;
      new = c.in_world-outcome.new.world;
      by = c.in-Ok-file_world.ensures.settings;
      opens = world.1;
      does = c.in_world-outcome.ensures.does;
      leaves = λ t. (
        ap (g.F.StoreFiles.held c.close.new.self) (sym path)
            ∙ (c.close.ensures.globals t ∙ ap (λ (s : _). Some (g.F.Store.NodeStore.content s)) c.store_of.ensures ∙ ap Some c.into_store.ensures.content),
        λ other apart. c.close.ensures.others t other (λ e. apart (e ∙ path)) ∙ c.in-Ok-file_world.ensures.others t other (λ e. apart (e ∙ path)),
      );
      sure = λ clean. sym (ap (λ (s : _). g.F.Store.NodeStore.doubt s) c.store_of.ensures ∙ c.into_store.ensures.doubt) ∙ c.close.ensures.sure clean;
      remains = λ clean.
          subst (g.F.StoreFiles.leaves c.close.new.self) (ap (λ (s : _). g.F.Store.NodeStore.content s) c.store_of.ensures ∙ c.into_store.ensures.content)
          (c.close.ensures.leaves clean);
    }))

pub returns-in-Err-file_world-clause-works : goal.returns-in-Err-file_world-clause-works
returns-in-Err-file_world-clause-works g c = rw c.in-File.is (inl (c.in-Err-file_world.ensures.early, (refl, refl)))
