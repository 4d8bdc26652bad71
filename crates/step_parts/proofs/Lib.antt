mod FirstRows
