mod Each
