mod HitLists
